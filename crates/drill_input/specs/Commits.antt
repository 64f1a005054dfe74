-- The commits of a drill (our own).
use Rattle.std.specs.Prelude.{ℕ, zero, suc, ◌==◌, List, [], ◌∷◌, ◌++◌, Option, Some, None, if◌then◌else◌}
use Rattle.rand_pcg.specs.Lcg.{Lcg}
use Rattle.osv_prim.specs.declared.oid.CommitRow.{CommitRow}
use Rattle.drill_input.specs.Draws.{draw, id}

abbrev pub listed : Option (List ℕ) → List (List ℕ)
listed None = []
listed (Some id) = id ∷ []

-- one of the first so many commits, unless it is the first parent
abbrev pub other_parent : ℕ → ℕ → Lcg → Option (List ℕ) × Lcg
other_parent number first g = (if (draw number g).0 == first then None else Some (id (draw number g).0), (draw number g).1)

-- one commit in four is a merge
unfoldable pub second_parent : ℕ → ℕ → Lcg → Option (List ℕ) × Lcg
second_parent number first g = if (draw 4 g).0 == 0 then other_parent number first (draw 4 g).1 else (None, (draw 4 g).1)

-- a first parent, and of a commit that isn't the second maybe another
abbrev pub parents_behind : ℕ → ℕ → Lcg → List (List ℕ) × Lcg
parents_behind number first g =
    if number == 1 then (id first ∷ [], g)
    else (id first ∷ listed (second_parent number first g).0, (second_parent number first g).1)

-- earlier commits; the first commit has none
abbrev pub parents : ℕ → Lcg → List (List ℕ) × Lcg
parents number g = if number == 0 then ([], g) else parents_behind number (draw number g).0 (draw number g).1

abbrev pub commit : ℕ → Lcg → CommitRow × Lcg
commit number g = (record { oid = id number; parents = (parents number g).0 }, (parents number g).1)

-- the first so many commits, and the generator after them
abbrev pub commits : ℕ → Lcg → List CommitRow × Lcg
commits zero g = ([], g)
commits (suc n) g = let before = commits n g in (before.0 ++ (commit n before.1).0 ∷ [], (commit n before.1).1)
