-- A list of lists as one list and the places at which its pieces end (our own).
use Rattle.std.specs.Prelude.{◌≡◌, ℕ, ◌≤◌, List, [], ◌∷◌}
use Rattle.std.specs.List.{slice_range}

-- the pieces from start on
abbrev pub pieces : {A : Type 0} → ℕ → List ℕ → List A → List (List A)
pieces start [] items = []
pieces start (end ∷ ends) items = slice_range items start end ∷ pieces end ends items

-- the pieces are one after another, and the last one ends with the whole list
abbrev pub IsCut : ℕ → List ℕ → ℕ → Type 0
IsCut start [] whole = start ≡ whole
IsCut start (end ∷ ends) whole = (start ≤ end) × IsCut end ends whole
