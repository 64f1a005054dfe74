-- A value for the lock: the numbers of the callers that added an entry, in their order (our own).
use Rattle.std.specs.Prelude.{◌≡◌, ℕ, ◌+◌, ◌<◌, ◌≤◌, List, [], ◌∷◌, ◌++◌, length, Option, IfSome, IfNone}
use Rattle.std.proofs.Math.Nat.{lt_of_lt_of_le}
use Rattle.turn_lock.specs.declared.note.Note.{Note}

-- a journal as contracts see it
pub record State : Type 0 where
  pub history : List ℕ
  pub callers : ℕ
  pub note : Note

-- an entry by this caller is added at the end, and the answer is its place, or nothing changes
pub record Adds (by : ℕ) (s : State) (answer : Option ℕ) (t : State) : Type 0 where
  pub some : IfSome answer (λ place. (place ≡ length s.history) × (t ≡ record s { history = s.history ++ by ∷ [] }))
  pub none : IfNone answer (t ≡ s)

-- the next number is given, or none is left
pub record Enrols (s : State) (answer : Option ℕ) (t : State) : Type 0 where
  pub some : IfSome answer (λ me. (me ≡ s.callers) × (t ≡ record s { callers = s.callers + 1 }))
  pub none : IfNone answer (t ≡ s)

-- a number that was given stays given
pub below_lasts : (by n m : ℕ) → by < n → n ≤ m → by < m
below_lasts by n m h le = lt_of_lt_of_le h le
