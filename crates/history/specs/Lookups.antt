-- What of imports in order belongs to one id, or to one repository (our own).
use Rattle.std.specs.Prelude.{ℕ, Bool, true, false, List, [], ◌∷◌, Option, Some, None, if◌then◌else◌}
use Rattle.std.specs.Str.{bytes_eq}
use Rattle.osv_prim.specs.declared.oid.CommitRow.{CommitRow}
use Rattle.osv_record.specs.Advisories.{Advisory}
use Rattle.osv_record.specs.Imports.{has_id}
use Rattle.history.specs.declared.past.Past.{Past}
use Rattle.history.specs.Prefixes.{advisories, records, grown}

-- the advisory of an id
abbrev pub with_id : List ℕ → List Advisory → Option Advisory
with_id id [] = None
with_id id (r ∷ rs) = if bytes_eq id r.id then Some r else with_id id rs

-- the import of an id that counts
abbrev pub record_of : List Past → List ℕ → Option Advisory
record_of p id = with_id id (records p)

-- an import of the id is among them
abbrev pub has_import : List Past → List ℕ → Bool
has_import p id = has_id id (advisories p)

abbrev pub is_any : List (List CommitRow) → Bool
is_any [] = false
is_any (rows ∷ more) = true

-- a Grow of the repository is among them
abbrev pub has_grow : List Past → List ℕ → Bool
has_grow p key = is_any (grown p key)
