-- The body of a request as a stream of commits.
use Rattle.std.specs.Prelude.{◌≡◌, ◌≢◌, ℕ, List, Option, Some, None, Result, Ok, Err}
use Rattle.osv_prim.specs.declared.oid.CommitRow.{CommitRow}
use Rattle.fast_export.specs.declared.fault.StreamFault.{StreamFault}
use Rattle.fast_export.specs.declared.fault.StreamFault.TheVariants as faults
use Rattle.http_wire.specs.declared.body.ReadBody.TheVariants as body_is
use Rattle.http_wire.specs.declared.rest.Rest.{Rest}
use Rattle.http_wire.specs.Chunks.{Whole}
use Rattle.http_wire.specs.Rests.{left_of}
use Rattle.http_wire.specs.Wholes.{BodyTells}
use Rattle.session_model.specs.Answers.{commits_in}
use Rattle.stream_body.specs.declared.read.ReadStream.{ReadStream}
use Rattle.stream_body.specs.declared.read.ReadStream.TheVariants as read

-- these are the commits of the body, of which at most so many may come, or its fault
abbrev pub Comes : ℕ → List ℕ → Result (List CommitRow) StreamFault → Type 0
Comes most body (Ok rows) = commits_in most body ≡ Ok rows
Comes most body (Err e) = e ≢ faults.Memory → commits_in most body ≡ Err e

-- the body that is left at the front of a text, and the text behind it
abbrev pub IsWhole : Rest → Option (List ℕ) → List ℕ → Option (List ℕ) → Type 0
IsWhole r None body left = Unit {0}
IsWhole r (Some text) body left = (rest : List ℕ) × (left ≡ Some rest) × (left_of r text ≡ Whole body rest)

-- What the answer tells of the text behind a head: as a reader of the whole body does.
abbrev pub StreamTells : ℕ → Rest → Option (List ℕ) → ReadStream → Option (List ℕ) → Type 0
StreamTells most r text (read.Come come) left = (body : List ℕ) × Comes most body come × IsWhole r text body left
StreamTells most r text (read.Refused e) left = BodyTells r text (body_is.Refused e) left
StreamTells most r text read.Truncated left = BodyTells r text body_is.Truncated left
StreamTells most r text read.ReadFault left = Unit {0}
StreamTells most r text read.Memory left = Unit {0}
