-- The refusals of requests that were read: their number, status and message (our own; what a status means is RFC 9110,
-- 15).
use Rattle.std.specs.Prelude.{ℕ, List, [], ◌++◌, Option, Some, None, codes, decimal}
use Rattle.commit_graph.specs.Faults as graph
use Rattle.fast_export.specs.Faults as stream
use Rattle.osv_record.specs.Faults as advisory
use Rattle.query_json.specs.Faults as query
use Rattle.reply_json.specs.declared.refusal.Refusal.{Refusal}
use Rattle.reply_json.specs.declared.refusal.Refusal.TheVariants as refusal

abbrev pub code_of : Refusal → ℕ
code_of refusal.NoSuchPath = 9
code_of refusal.MethodNotAllowed = 10
code_of refusal.NoSuchId = 11
code_of (refusal.BadAdvisory fault) = 12
code_of (refusal.BadQuery fault) = 13
code_of (refusal.BadStream fault) = 14
code_of (refusal.BadGraph fault) = 15
code_of (refusal.SnapshotGone index snapshot oldest) = 16
code_of (refusal.SnapshotAhead index snapshot newest) = 17
code_of (refusal.SnapshotNotYet least newest) = 18
code_of (refusal.RepoMoved seen now) = 19
code_of (refusal.JournalFull used limit) = 20
code_of refusal.RepoMissing = 21
code_of refusal.BadMinSnapshot = 23

abbrev pub status_of : Refusal → ℕ
status_of refusal.NoSuchPath = 404
status_of refusal.MethodNotAllowed = 405
status_of refusal.NoSuchId = 404
status_of (refusal.BadAdvisory fault) = 400
status_of (refusal.BadQuery fault) = 400
status_of (refusal.BadStream fault) = 400
status_of (refusal.BadGraph fault) = 400
status_of (refusal.SnapshotGone index snapshot oldest) = 410
status_of (refusal.SnapshotAhead index snapshot newest) = 400
status_of (refusal.SnapshotNotYet least newest) = 409
status_of (refusal.RepoMoved seen now) = 409
status_of (refusal.JournalFull used limit) = 507
status_of refusal.RepoMissing = 400
status_of refusal.BadMinSnapshot = 400

-- the query of a batch that is refused, by its index from 0
abbrev pub query_at : Option ℕ → List ℕ
query_at None = []
query_at (Some index) = codes "query " ++ (decimal index ++ codes ": ")

abbrev pub numbered : List ℕ → ℕ → List ℕ → List ℕ
numbered what code name = what ++ (codes " refused: " ++ (decimal code ++ (codes " " ++ name)))

-- a snapshot that can't be answered of, beside one that can
abbrev pub two_snapshots : ℕ → List ℕ → ℕ → List ℕ
two_snapshots snapshot between other = codes "snapshot " ++ (decimal snapshot ++ (between ++ decimal other))

abbrev pub message_of : Refusal → List ℕ
message_of refusal.NoSuchPath = codes "no such path"
message_of refusal.MethodNotAllowed = codes "method not allowed"
message_of refusal.NoSuchId = codes "no such id"
message_of (refusal.BadAdvisory fault) = numbered (codes "record") (advisory.code_of fault) (advisory.name_of fault)
message_of (refusal.BadQuery fault) = query_at fault.index ++ numbered (codes "query") (query.code_of fault.fault) (query.name_of fault.fault)
message_of (refusal.BadStream fault) =
    numbered (codes "stream") (stream.code_of fault) (stream.name_of fault) ++ (codes " at " ++ decimal (stream.offset_of fault))
message_of (refusal.BadGraph fault) =
    numbered (codes "graph") (graph.code_of fault) (graph.name_of fault) ++ (codes " at row " ++ decimal (graph.row_of fault))
message_of (refusal.SnapshotGone index snapshot oldest) = query_at index ++ two_snapshots snapshot (codes " gone, oldest ") oldest
message_of (refusal.SnapshotAhead index snapshot newest) = query_at index ++ two_snapshots snapshot (codes " ahead, newest ") newest
message_of (refusal.SnapshotNotYet least newest) = two_snapshots least (codes " not yet, newest ") newest
message_of (refusal.RepoMoved seen now) = codes "repo moved, seen " ++ (decimal seen ++ (codes " now " ++ decimal now))
message_of (refusal.JournalFull used limit) = codes "journal full, used " ++ (decimal used ++ (codes " limit " ++ decimal limit))
message_of refusal.RepoMissing = codes "repo missing"
message_of refusal.BadMinSnapshot = codes "bad x-osv-min-snapshot"

-- a refusal's body, of its number and its message
abbrev pub body_of : ℕ → List ℕ → List ℕ
body_of code message = codes "{\"code\":" ++ (decimal code ++ (codes ",\"message\":\"" ++ (message ++ codes "\"}")))

abbrev pub refusal_body : Refusal → List ℕ
refusal_body r = body_of (code_of r) (message_of r)
