-- What a job was to give, in a history.
use Rattle.std.proofs.Common.{◌≡◌, ℕ, zero, suc, ◌-◌, ◌<◌, false, List, [], ◌∷◌, length, map, take, Some, refl, ap, sym, subst, ◌∙◌, arith}
use Rattle.std.specs.Prelude.{slice_get, MatchOption}
use Rattle.std.specs.List.{AllZip, list_any}
use Rattle.history.specs.declared.past.Past.{Past}
use Rattle.history.specs.Entries.{History, imports, snap}
use Rattle.book_model.specs.State.{is_out}
use Rattle.book_model.specs.Jobs.{JobName, StandsIn, JobHolds, FinishedHolds}
use Rattle.impact_job.specs.declared.tables.Todo.{Todo}
use Rattle.impact_job.specs.declared.tables.Todo.TheVariants.{Carried, Piece}
use Rattle.snapshot.specs.declared.job.Job.{Job}
use Rattle.snapshot.specs.declared.job.Finished.{Finished}
use Rattle.snapshot.specs.declared.job.Place.{Place}
use Rattle.snapshot.specs.Jobs.{cell_of, planned_place, name, outcome, IsJob, IsDone}

-- what stands for the imports of a job gives what stands for them
pub done-holds : (job : Job) (f : Finished) → (outcome f).job ≡ name job → ((b p : List Past) → IsJob job b p → IsDone f b p) → list_any is_out (outcome f).cells ≡ false
    → (h : History) → JobHolds name IsJob job h → FinishedHolds outcome IsDone f h
done-holds job f same done free h x =
    record {
      stands =
          subst (λ (j : JobName). StandsIn (IsDone f) j.build j.upto h) (sym same)
          (record { within = x.within; stands = done (snap h ((name job).build - 1)) (take (name job).upto (imports h)) x.stands });
      free = free;
    }

planned-free : (todo : List Todo) → list_any is_out (map cell_of (map planned_place todo)) ≡ false
planned-free [] = refl
planned-free (Carried set ∷ todo) = planned-free todo
planned-free (Piece piece ∷ todo) = planned-free todo

-- nobody has a piece of a plan that was just made
pub none-out : (todo : List Todo) (places : List Place) → places ≡ map planned_place todo → list_any is_out (map cell_of places) ≡ false
none-out todo places e = ap (λ (ps : List Place). list_any is_out (map cell_of ps)) e ∙ planned-free todo

-- the item with a number is there
pub at-number : {X Y : Type 0} (R : X → Y → Type 0) (xs : List X) (ys : List Y) (n : ℕ) (Q : X → Type 0) → AllZip R xs ys → n < length ys → ((x : X) → slice_get xs n ≡ Some x → Q x) → MatchOption (slice_get xs n) ⊥ Q
at-number R [] [] n Q z lt f = absurd (omega arith)
at-number R [] (y ∷ ys) n Q z lt f = absurd z
at-number R (x ∷ xs) [] n Q z lt f = absurd z
at-number R (x ∷ xs) (y ∷ ys) zero Q z lt f = f x refl
at-number R (x ∷ xs) (y ∷ ys) (suc n) Q z lt f = at-number R xs ys n Q z.1 (omega arith) f
