-- Stages of a build that is open.
use Rattle.std.proofs.Common.{◌≡◌, ℕ, ◌<◌, Bool, true, false, List, [], ◌∷◌, length, map, set, Global, refl, sym, ap, subst, ◌∙◌, arith}
use Rattle.std.specs.Prelude.{Option, Some, None, Result, Ok, Err, is_some}
use Rattle.std.specs.List.{position_or_len}
use Rattle.std.specs.Arc.{arc_value}
use Rattle.std.specs.declared.sync.Arc.{Arc}
use Rattle.std.proofs.lemmas.List.{length-map, map-set}
use Rattle.osv_prim.specs.declared.memory.Memory.{Memory}
use Rattle.history.specs.declared.past.Past.{Past}
use Rattle.impact_set.specs.Standing.{Known}
use Rattle.impact_job.specs.declared.prefix.Prefix.{Prefix}
use Rattle.impact_job.specs.declared.tables.Plan as plans
use Rattle.impact_job.specs.Tables.{IsPrefixOf, IsPlanOf, plan_upto}
use Rattle.book_model.specs.State.{Kind, Plan, Piece, Assemble, Cell, OutTo, Build, is_free, first_free, filled}
use Rattle.book_model.specs.Jobs.{JobName}
use Rattle.snapshot.specs.declared.snapshot.Snapshot.{Snapshot}
use Rattle.snapshot.specs.declared.job.Job.{Job}
use Rattle.snapshot.specs.declared.job.Job.TheVariants as to_do
use Rattle.snapshot.specs.declared.job.Place.{Place}
use Rattle.snapshot.specs.declared.job.Place.TheVariants as places
use Rattle.snapshot.specs.Snapshots.{StandsFor}
use Rattle.snapshot.specs.Jobs.{cell_of, name, IsJob}
use Rattle.book.specs.declared.build.Open.{Open}
use Rattle.book.specs.declared.build.Part.{Part}
use Rattle.book.specs.declared.build.Part.TheVariants as parts
use Rattle.book.specs.declared.build.Stage.{Stage}
use Rattle.book.specs.declared.build.Stage.TheVariants as stages
use Rattle.book.specs.Pieces.{Placed, with_place}
use Rattle.book.specs.Builds.{number_of, owned_by, phase_of, stage_cells, stage_upto, IsStageOf}
use Rattle.book.specs.Handing.{IsJobOf, PieceGoesOut, HandsPiece, OpenGoesOut, HandsOutOf, IsFreed, IsStageFor, IsFilledBy}
use Rattle.book.proofs.Placing.{free-some, places-long, made-set, free-set, out-set}

abbrev at_phase : ℕ → Kind → List Cell → Build
at_phase upto kind cells = record { upto = upto; phase = kind; cells = cells }

abbrev built : ℕ → List Cell → Build
built upto cells = at_phase upto Piece cells

abbrev with_stage : Open → Stage → Open
with_stage o stage = record { upto = o.upto; place = o.place; stage = stage; owner = o.owner }

-- a piece made a set
pub filled-by : (x y : Placed) (n : ℕ) (known : Arc Known Global) (old new : Stage) → old ≡ stages.Pieces x → y ≡ with_place x n (places.Made known) → IsStageFor y new → IsFilledBy n (arc_value known) old new
filled-by x y n known old new there is f =
    let g : IsStageFor (with_place x n (places.Made known)) new = subst (λ (z : Placed). IsStageFor z new) is f in
    subst (λ (s : Stage). IsFilledBy n (arc_value known) s new) (sym there)
    (record {
      build = λ upto. g.build upto ∙ ap (λ (cs : List Cell). filled upto cs) (map-set cell_of x.places n (places.Made known));
      named = g.named;
      is = λ b p a made. g.is b p (made-set known x n b p made a);
    })

-- a piece is free again
pub piece-freed : (o : Open) (x y : Placed) (part : Part) (n : ℕ) → part ≡ parts.Piece n → o.stage ≡ stages.Pieces x → y ≡ with_place x n places.Free → IsFreed (number_of part) o (record { upto = o.upto; place = o.place; stage = stages.Pieces y; owner = o.owner })
piece-freed o x y part n at there is =
    subst (λ (q : Part). IsFreed (number_of q) o (record { upto = o.upto; place = o.place; stage = stages.Pieces y; owner = o.owner })) (sym at)
    (subst (λ (s : Stage). IsFreed n (record { upto = o.upto; place = o.place; stage = s; owner = o.owner }) (record { upto = o.upto; place = o.place; stage = stages.Pieces y; owner = o.owner })) (sym there)
    (subst (λ (z : Placed). IsFreed n (record { upto = o.upto; place = o.place; stage = stages.Pieces x; owner = o.owner }) (record { upto = o.upto; place = o.place; stage = stages.Pieces z; owner = o.owner })) (sym is)
    (record {
      build = ap (λ (cs : List Cell). built o.upto cs) (map-set cell_of x.places n places.Free);
      stays = record { upto = refl; place = refl; named = refl; is = λ b p a. free-set x n b p a };
    })))

-- ---- jobs that go out

abbrev called : ℕ → ℕ → ℕ → JobName
called build upto number = record { build = build; upto = upto; kind = Piece; number = number }

-- the first free piece
piece_at : (plan one : plans.Plan) (ps : List Place) (build by index number : ℕ) (job : Job) → index ≡ position_or_len is_free (map cell_of ps) → index < length ps → number ≡ index → one ≡ plan
    → name job ≡ called build (plan_upto one) number → ((b p : List Past) → IsPlanOf one b p × (number < length one.todo.items) → IsJob job b p)
    → PieceGoesOut build by (record { plan = plan; places = ps }) job (record { plan = plan; places = set ps index (places.Out by) })
piece_at plan one ps build by index number job first lt at same named is =
    record {
      number = index;
      free = free-some (map cell_of ps) index first (let long : length (map cell_of ps) ≡ length ps = length-map ps cell_of in omega (arith, long, lt));
      its = record {
        called = named ∙ ap (λ (q : plans.Plan). called build (plan_upto q) number) same ∙ ap (λ (n : ℕ). called build (plan_upto plan) n) at;
        is = λ b p a.
            is b p (subst (λ (q : plans.Plan). IsPlanOf q b p × (number < length q.todo.items)) (sym same)
            (a.plan, (let long : length ps ≡ length plan.todo.items = places-long (record { plan = plan; places = ps }) b p a in omega (arith, at, lt, long))));
      };
      left = refl;
    }

pub piece-goes : (plan one : Arc plans.Plan Global) (ps : List Place) (x : Placed) (build by index number : ℕ) → record { plan = arc_value plan; places = ps } ≡ x → index ≡ position_or_len is_free (map cell_of ps) → index < length ps → number ≡ index → arc_value one ≡ arc_value plan
    → PieceGoesOut build by x (to_do.Piece build one number) (record { plan = arc_value plan; places = set ps index (places.Out by) })
piece-goes plan one ps x build by index number view first lt at same =
    subst (λ (y : Placed). PieceGoesOut build by y (to_do.Piece build one number) (record { plan = arc_value plan; places = set ps index (places.Out by) })) view
    (piece_at (arc_value plan) (arc_value one) ps build by index number (to_do.Piece build one number) first lt at same refl (λ b p is. is))

-- of a build that is at its pieces
pub pieces-go : (base : Snapshot) (build by : ℕ) (o : Open) (x y : Placed) (r : Result (Option Job) Memory) → o.stage ≡ stages.Pieces x → HandsPiece build by x r y
    → HandsOutOf base build by o r (record { upto = o.upto; place = o.place; stage = stages.Pieces y; owner = o.owner })
pieces-go base build by o x y (Ok None) there g = (
  subst (λ (s : Stage). first_free (stage_cells s o.owner) ≡ None) (sym there) g.0,
  ap (λ (z : Placed). with_stage o (stages.Pieces z)) g.1 ∙ ap (λ (s : Stage). with_stage o s) (sym there),
)
pieces-go base build by o x y (Ok (Some job)) there g =
    subst (λ (s : Stage). OpenGoesOut base build by (with_stage o s) job (with_stage o (stages.Pieces y))) (sym there)
    (subst (λ (z : Placed). OpenGoesOut base build by (with_stage o (stages.Pieces x)) job (with_stage o (stages.Pieces z))) (sym g.left)
    (record {
      number = g.number;
      free = g.free;
      its = record { called = g.its.called; is = λ b p h. g.its.is b p h.1 };
      left = ap (λ (cs : List Cell). built o.upto cs) (map-set cell_of x.places g.number (places.Out by));
      stays = record { upto = refl; place = refl; named = refl; is = λ b p a. out-set x g.number by b p a };
    }))
pieces-go base build by o x y (Err memory) there g = ap (λ (z : Placed). with_stage o (stages.Pieces z)) g ∙ ap (λ (s : Stage). with_stage o s) (sym there)

-- the one job of a stage
one_goes : (base : Snapshot) (build by : ℕ) (o : Open) (stage : Stage) (job : Job) → ((q : Option ℕ) → stage_cells stage q ≡ owned_by q ∷ []) → o.owner ≡ None
    → IsJobOf build (stage_upto stage) (phase_of stage) 0 (λ b p. StandsFor base b × IsStageOf stage b p) job → OpenGoesOut base build by (with_stage o stage) job (record { upto = o.upto; place = o.place; stage = stage; owner = Some by })
one_goes base build by o stage job one free j =
    record {
      number = 0;
      free = ap (λ (q : Option ℕ). first_free (stage_cells stage q)) free ∙ ap (λ (cs : List Cell). first_free cs) (one None);
      its = j;
      left =
          ap (λ (cs : List Cell). at_phase o.upto (phase_of stage) cs)
          (one (Some by) ∙ ap (λ (cs : List Cell). set cs 0 (OutTo by)) (sym (one None)) ∙ ap (λ (q : Option ℕ). set (stage_cells stage q) 0 (OutTo by)) (sym free));
      stays = record { upto = refl; place = refl; named = refl; is = λ b p a. a };
    }

pub plan-goes : (base : Snapshot) (build by : ℕ) (o : Open) (prefix : Arc Prefix Global) (job : Job) → o.stage ≡ stages.Plan prefix → o.owner ≡ None → IsJobOf build (arc_value prefix).upto Plan 0 (IsPrefixOf (arc_value prefix)) job
    → OpenGoesOut base build by o job (record { upto = o.upto; place = o.place; stage = stages.Plan prefix; owner = Some by })
plan-goes base build by o prefix job there free j =
    subst (λ (s : Stage). OpenGoesOut base build by (with_stage o s) job (record { upto = o.upto; place = o.place; stage = stages.Plan prefix; owner = Some by })) (sym there)
    (one_goes base build by o (stages.Plan prefix) job (λ q. refl) free (record { called = j.called; is = λ b p h. j.is b p h.1 }))

pub assembly-goes : (base : Snapshot) (build by : ℕ) (o : Open) (x : Placed) (job : Job) → o.stage ≡ stages.Assemble x → o.owner ≡ None → IsJobOf build x.plan.upto Assemble 0 (λ b p. StandsFor base b × IsStageOf (stages.Assemble x) b p) job
    → OpenGoesOut base build by o job (record { upto = o.upto; place = o.place; stage = stages.Assemble x; owner = Some by })
assembly-goes base build by o x job there free j =
    subst (λ (s : Stage). OpenGoesOut base build by (with_stage o s) job (record { upto = o.upto; place = o.place; stage = stages.Assemble x; owner = Some by })) (sym there)
    (one_goes base build by o (stages.Assemble x) job (λ q. refl) free j)

pub unowned : (owner : Option ℕ) (t : Bool) → t ≡ is_some owner → t ≡ false → owner ≡ None
unowned None t e f = refl
unowned (Some by) t e f = absurd (true_false (sym e ∙ f))
  where
    true_false : true ≡ false → ⊥
    true_false x = cc
