-- The pieces of a plan, one after another.
use Rattle.std.proofs.Common.{◌≡◌, ℕ, zero, suc, ◌+◌, ◌<◌, List, [], ◌∷◌, ◌++◌, length, map, take, get_or, Some, refl, ap, ◌∙◌, arith}
use Rattle.std.specs.Prelude.{slice_get}
use Rattle.std.specs.List.{AllZip}
use Rattle.impact_job.specs.declared.tables.Todo.{Todo}
use Rattle.snapshot.specs.declared.job.Place.{Place}
use Rattle.snapshot.specs.Jobs.{planned_place}

-- what a plan has where a place stands
pub record TodoAt (todo : List Todo) (i : ℕ) (place : Place) : Type 0 where
  pub item : Todo
  pub is : place ≡ planned_place item
  pub more : take (i + 1) todo ≡ take i todo ++ item ∷ []

pub todo-at : (todo : List Todo) (i : ℕ) (place : Place) → i < length todo → place ≡ get_or (map planned_place todo) i place → TodoAt todo i place
todo-at [] i place lt e = absurd (omega arith)
todo-at (t ∷ todo) zero place lt e = record { item = t; is = e; more = refl }
todo-at (t ∷ todo) (suc i) place lt e =
    let a = todo-at todo i place (omega arith) e in
    let k : suc i + 1 ≡ suc (i + 1) = omega arith in
    record { item = a.item; is = a.is; more = ap (λ (n : ℕ). take n (t ∷ todo)) k ∙ ap (λ (ts : List Todo). t ∷ ts) a.more }

-- an item beside whose number there is one
pub record ItemAt {X : Type 0} (xs : List X) (i : ℕ) : Type 0 where
  pub item : X
  pub there : slice_get xs i ≡ Some item
  pub more : take (i + 1) xs ≡ take i xs ++ item ∷ []

pub item-at : {X Y : Type 0} (R : X → Y → Type 0) (xs : List X) (ys : List Y) (i : ℕ) → i < length ys → AllZip R xs ys → ItemAt xs i
item-at R [] [] i lt z = absurd (omega arith)
item-at R [] (y ∷ ys) i lt z = absurd z
item-at R (x ∷ xs) [] i lt z = absurd z
item-at R (x ∷ xs) (y ∷ ys) zero lt z = record { item = x; there = refl; more = refl }
item-at R (x ∷ xs) (y ∷ ys) (suc i) lt z =
    let a = item-at R xs ys i (omega arith) z.1 in
    let k : suc i + 1 ≡ suc (i + 1) = omega arith in
    record { item = a.item; there = a.there; more = ap (λ (n : ℕ). take n (x ∷ xs)) k ∙ ap (λ (us : List _). x ∷ us) a.more }
