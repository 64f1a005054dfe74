-- When a call of a book may be made: of the caller's number, the history and the count of caller numbers alone (our own). Each of these lasts: it holds of every history that begins with this one and of every greater count.
use Rattle.std.specs.Prelude.{ℕ, ◌<◌, ◌≤◌, List, length}
use Rattle.osv_prim.specs.declared.oid.CommitRow.{CommitRow}
use Rattle.history.specs.declared.past.Past.{Past}
use Rattle.history.specs.Entries.{History, imports}
use Rattle.history.specs.Conditions.{IsOfVersion}
use Rattle.book_model.specs.Jobs.{JobName, Outcome, JobHolds, FinishedHolds}

-- the number was given: of `import` and `take`, and a part of all others
abbrev pub MayCall : ℕ → History → ℕ → Type 0
MayCall by h callers = by < callers

-- the rows begin with the graph of the repository after its first so many Grows
abbrev pub MayGrow : List ℕ → ℕ → List CommitRow → ℕ → History → ℕ → Type 0
MayGrow key version rows by h callers = (by < callers) × IsOfVersion key version rows h

-- there are so many imports
abbrev pub MayPull : ℕ → ℕ → History → ℕ → Type 0
MayPull goal by h callers = (by < callers) × (goal ≤ length (imports h))

-- what was done is what its job was to give
abbrev pub MayFinish : {F : Type 0} → (F → Outcome) → (F → List Past → List Past → Type 0) → F → ℕ → History → ℕ → Type 0
MayFinish outcome is_done finished by h callers = (by < callers) × FinishedHolds outcome is_done finished h

-- the job is that of its name
abbrev pub MayGiveBack : {J : Type 0} → (J → JobName) → (J → List Past → List Past → Type 0) → J → ℕ → History → ℕ → Type 0
MayGiveBack name is_job job by h callers = (by < callers) × JobHolds name is_job job h
