-- Sets that stay, where no repository has grown.
use Rattle.std.proofs.Common.{◌≡◌, ℕ, ◌+◌, Bool, true, false, cond, List, [], ◌∷◌, ◌++◌, refl, ap, ◌∙◌}
use Rattle.std.specs.List.{AllZip, AllByRecursion}
use mathlib.Core.List.{IsPrefix}
use Rattle.osv_record.specs.Advisories.{Extent, Entry, Advisory, is_git}
use Rattle.history.specs.declared.past.Past.{Past}
use Rattle.history.specs.Lookups.{has_import, has_grow}
use Rattle.history.specs.Pieces.{GitRange, repo_of, ranges_from, ranges_of_entries, ranges_of}
use Rattle.impact_set.specs.Standing.{Known}
use Rattle.piece_work.specs.Sets.{IsSetOf}
use Rattle.impact_job.specs.declared.tables.Todo.{Todo}
use Rattle.impact_job.specs.Tables.{IsTodoOf}
use Rattle.impact_job.specs.Walks.{IsBegun, Stays}
use Rattle.impact_job.proofs.Deciding.{came, carry-kind, stayed}
use Rattle.impact_job.proofs.Walking.{begun-push}

-- ---- the ranges of an advisory are its own

abbrev AreIts : Advisory → List GitRange → Type 0
AreIts r xs = AllByRecursion (λ (x : GitRange). x.advisory ≡ r) xs

its_first : (r : Advisory) (g : Bool) (x : GitRange) (xs : List GitRange) → x.advisory ≡ r → AreIts r xs → AreIts r (cond g (x ∷ xs) xs)
its_first r true x xs e a = (e, a)
its_first r false x xs e a = a

its_ranges : (r : Advisory) (e i : ℕ) (xs : List Extent) → AreIts r (ranges_from r e i xs)
its_ranges r e i [] = tt
its_ranges r e i (x ∷ xs) = its_first r (is_git x.kind) (record { advisory = r; entry = e; range = i; extent = x }) (ranges_from r e (i + 1) xs) refl (its_ranges r e (i + 1) xs)

its_both : (r : Advisory) (xs ys : List GitRange) → AreIts r xs → AreIts r ys → AreIts r (xs ++ ys)
its_both r [] ys a c = c
its_both r (x ∷ xs) ys a c = (a.0, its_both r xs ys a.1 c)

its_entries : (r : Advisory) (e : ℕ) (entries : List Entry) → AreIts r (ranges_of_entries r e entries)
its_entries r e [] = tt
its_entries r e (a ∷ rest) = its_both r (ranges_from r e 0 a.ranges) (ranges_of_entries r (e + 1) rest) (its_ranges r e 0 a.ranges) (its_entries r (e + 1) rest)

module _ (b p : List Past) where
  -- ---- where nothing came its sets stay

  stay_each : (r : Advisory) (xs : List GitRange) (sets : List Known) → IsPrefix b p → has_import (came b p) r.id ≡ false → ((key : List ℕ) → has_grow (came b p) key ≡ false)
      → AreIts r xs → AllZip (IsSetOf b) xs sets → AllZip (Stays b p) xs sets
  stay_each r [] [] front none quiet a z = tt
  stay_each r [] (s ∷ sets) front none quiet a z = absurd z
  stay_each r (x ∷ xs) [] front none quiet a z = absurd z
  stay_each r (x ∷ xs) (s ∷ sets) front none quiet a z =
      let own : has_import (came b p) x.advisory.id ≡ false = ap (λ (y : Advisory). has_import (came b p) y.id) a.0 ∙ none in (
        (carry-kind b p x own (quiet (repo_of x)), stayed b p x s front (quiet (repo_of x)) z.0),
        stay_each r xs sets front none quiet a.1 z.1,
      )

  pub stay-each : (r : Advisory) (sets : List Known) → IsPrefix b p → has_import (came b p) r.id ≡ false → ((key : List ℕ) → has_grow (came b p) key ≡ false) → AllZip (IsSetOf b) (ranges_of r) sets
      → AllZip (Stays b p) (ranges_of r) sets
  stay-each r sets front none quiet z = stay_each r (ranges_of r) sets front none quiet (its_entries r 0 r.affected) z

  -- ---- a walk over sets that stay

  pub record Carrying (todo : List Todo) (sets : List Known) (later : List GitRange) : Type 0 where
    -- the ranges whose sets these are
    pub left : List GitRange
    pub begun : IsBegun b p todo (left ++ later)
    pub stay : AllZip (Stays b p) left sets

  carrying_more : (todo : List Todo) (t : Todo) (s : Known) (sets : List Known) (later left : List GitRange) → ((x : GitRange) → Stays b p x s → IsTodoOf b p x t) → IsBegun b p todo (left ++ later) → AllZip (Stays b p) left (s ∷ sets)
      → Carrying (todo ++ t ∷ []) sets later
  carrying_more todo t s sets later [] is w z = absurd z
  carrying_more todo t s sets later (x ∷ left) is w z = record { left = left; begun = begun-push b p todo t x (left ++ later) w (is x z.0); stay = z.1 }

  pub carrying-more : (todo : List Todo) (t : Todo) (s : Known) (sets : List Known) (later : List GitRange) → ((x : GitRange) → Stays b p x s → IsTodoOf b p x t) → Carrying todo (s ∷ sets) later → Carrying (todo ++ t ∷ []) sets later
  carrying-more todo t s sets later is c = carrying_more todo t s sets later c.left is c.begun c.stay

  carrying_end : (todo : List Todo) (later left : List GitRange) → IsBegun b p todo (left ++ later) → AllZip (Stays b p) left [] → IsBegun b p todo later
  carrying_end todo later [] w z = w
  carrying_end todo later (x ∷ left) w z = absurd z

  pub carrying-end : (todo : List Todo) (later : List GitRange) → Carrying todo [] later → IsBegun b p todo later
  carrying-end todo later c = carrying_end todo later c.left c.begun c.stay
