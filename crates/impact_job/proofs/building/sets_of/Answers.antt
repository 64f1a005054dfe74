use Rattle.std.proofs.Common.{rules, ◌≡◌, ℕ, ◌+◌, ◌≤◌, List, [], ◌∷◌, ◌++◌, map, take, length, length-append, ap, sym, subst, ◌∙◌, arith}
use Rattle.std.specs.Arc.{arc_value}
use Rattle.std.specs.List.{AllZip}
use Rattle.std.specs.Slice.Iter.{iter_rest}
use Rattle.std.specs.Iterator.Adapters.{zip_first, zip_second}
use Rattle.std.proofs.lemmas.List.{map-append}
use Rattle.std.proofs.lemmas.Slice.Zip.{zip_turn, zip_end}
use Rattle.history.specs.Pieces.{GitRange}
use Rattle.impact_set.specs.Standing.{Known}
use Rattle.piece_work.specs.Sets.{IsSetOf}
use Rattle.impact_job.specs.Tables.{IsTodoOf, IsMadeFor, HasSet}
use Rattle.impact_job.proofs.Walking.{zip-push, zip-length}
use Rattle.impact_job.proofs.Grouping.{beside-at, both-at, all-taken}
use Rattle.impact_job.proofs.building.sets_of.Goals as goal

pub set_in-requires : goal.set_in-requires
set_in-requires c =
    let first : iter_rest (zip_first c.into_iter-one-iterator.result) ≡ c.args.todo.now = search rules in
    let second : iter_rest (zip_second c.into_iter-one-iterator.result) ≡ c.args.made.now = search rules in
    let at =
    zip_turn c.args.todo.now c.args.made.now c.loop-one.yielded c.into_iter-one-iterator.result c.loop-one.one-iterator c.next.new.self c.next.result first second c.loop-one.yielded_by (c.in-Some.one, c.in-Some.made) c.in-Some.is
    c.next.ensures.steps
    in
    both-at HasSet c.args.todo.now c.args.made.now (length c.loop-one.yielded) c.in-Some.one.now c.in-Some.made.now at.0 (at.2 c.in-Some.one.now) (at.3 c.in-Some.made.now) c.requires

pub loop-one-preserved : goal.loop-one-preserved
loop-one-preserved c = λ b p ranges z m.
    let first : iter_rest (zip_first c.into_iter-one-iterator.result) ≡ c.args.todo.now = search rules in
    let second : iter_rest (zip_second c.into_iter-one-iterator.result) ≡ c.args.made.now = search rules in
    let turn =
    zip_turn c.args.todo.now c.args.made.now c.loop-one.yielded c.into_iter-one-iterator.result c.loop-one.one-iterator c.next.new.self c.next.result first second c.loop-one.yielded_by (c.in-Some.one, c.in-Some.made) c.in-Some.is
    c.next.ensures.steps
    in
    let i : ℕ = length c.loop-one.yielded in
    let done : List Known = map (λ a. arc_value a) c.loop-one.sets.items in
    let at =
    beside-at (IsTodoOf b p) (IsMadeFor p) ranges c.args.todo.now c.args.made.now i c.in-Some.one.now c.in-Some.made.now turn.0 (turn.2 c.in-Some.one.now) (turn.3 c.in-Some.made.now) z m
    in
    let pushed : map (λ a. arc_value a) c.push.new.self.items ≡ done ++ arc_value c.set_in.result.now ∷ [] =
    ap (map (λ a. arc_value a)) c.in_ok-push.ensures.items ∙ map-append (λ a. arc_value a) c.loop-one.sets.items (c.in_ok-try_clone.field-0 ∷ [])
    ∙ ap (λ (k : Known). done ++ k ∷ []) c.in_ok-try_clone.ensures
    in
    let longer : length (c.loop-one.yielded ++ (c.in-Some.one, c.in-Some.made) ∷ []) ≡ i + 1 = length-append c.loop-one.yielded ((c.in-Some.one, c.in-Some.made) ∷ []) in
    subst (λ (xs : List GitRange). AllZip (IsSetOf p) xs (map (λ a. arc_value a) c.push.new.self.items)) (sym (ap (λ (n : ℕ). take n ranges) longer ∙ at.more))
    (subst (λ (ks : List Known). AllZip (IsSetOf p) (take i ranges ++ at.item ∷ []) ks) (sym pushed)
    (zip-push (IsSetOf p) (take i ranges) done at.item (arc_value c.set_in.result.now) (c.loop-one.invariant b p ranges z m) (c.set_in.ensures b p at.item at.is at.has)))

pub returns : goal.returns
returns c = λ b p ranges z m.
    let first : iter_rest (zip_first c.into_iter-one-iterator.result) ≡ c.args.todo.now = search rules in
    let second : iter_rest (zip_second c.into_iter-one-iterator.result) ≡ c.args.made.now = search rules in
    let end = zip_end c.args.todo.now c.args.made.now c.loop-one.yielded c.into_iter-one-iterator.result c.loop-one.one-iterator c.next.new.self c.next.result first second c.loop-one.yielded_by c.in-None.is c.next.ensures.steps in
    let all : length c.args.todo.now ≤ length c.loop-one.yielded =
    omega (arith, end, zip-length (IsTodoOf b p) ranges c.args.todo.now z, zip-length (IsMadeFor p) ranges c.args.made.now m)
    in
    subst (λ (xs : List GitRange). AllZip (IsSetOf p) xs (map (λ a. arc_value a) c.from_vec.result)) (all-taken (IsTodoOf b p) ranges c.args.todo.now (length c.loop-one.yielded) all z)
    (subst (λ vs. AllZip (IsSetOf p) (take (length c.loop-one.yielded) ranges) (map (λ a. arc_value a) vs)) (sym c.from_vec.ensures) (c.loop-one.invariant b p ranges z m))
