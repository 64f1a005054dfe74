-- What a reader of a whole request answers.
use Rattle.std.specs.Prelude.{◌≡◌, ℕ, Bool, List, Option, Some, None, ◌⊎◌}
use Rattle.std.specs.Io.KnownBytes.{Appends}
use Rattle.http_wire.specs.declared.room.Room.{Room}
use Rattle.http_wire.specs.declared.rest.Rest.{Rest}
use Rattle.http_wire.specs.declared.body.ReadBody.{ReadBody}
use Rattle.http_wire.specs.declared.body.ReadBody.TheVariants as read
use Rattle.http_wire.specs.declared.read.Got.{Got}
use Rattle.http_wire.specs.declared.read.Got.TheVariants as got
use Rattle.http_wire.specs.Ends.{head_len, front}
use Rattle.http_wire.specs.Chunks.{Whole, Bad, Short}
use Rattle.http_wire.specs.Heads.{CutsInterim}
use Rattle.http_wire.specs.Requests.{OpensWith, Next, Asked, Refused, Ended, Truncated, interim}
use Rattle.http_wire.specs.Rests.{left_of}

-- what a reader of a whole body tells of the text behind a head
abbrev pub TellsBody : Rest → List ℕ → ReadBody → Option (List ℕ) → Type 0
TellsBody r text (read.Whole body) left = (rest : List ℕ) × (left ≡ Some rest) × (left_of r text ≡ Whole body.items rest)
TellsBody r text (read.Refused e) left = left_of r text ≡ Bad e
TellsBody r text read.Truncated left = left_of r text ≡ Short
TellsBody r text read.ReadFault left = Unit {0}
TellsBody r text read.Memory left = Unit {0}

-- the same where the source tells its bytes
abbrev pub BodyTells : Rest → Option (List ℕ) → ReadBody → Option (List ℕ) → Type 0
BodyTells r None b left = Unit {0}
BodyTells r (Some text) b left = TellsBody r text b left

-- reading stopped behind a head, whose client got the interim where it waits
abbrev pub StopsBehindHead : Room → List ℕ → Option (List ℕ) → Option (List ℕ) → Type 0
StopsBehindHead room text out out_now =
    (waits : Bool) × OpensWith room text waits × Appends out out_now (interim waits)

-- What the answer tells of a text, what is held and left of it, and what was written.
abbrev pub TellsRequest : Room → List ℕ → Option (List ℕ) → Got → List ℕ → Option (List ℕ) → Option (List ℕ) → Type 0
TellsRequest room text out (got.Request r) held left out_now =
    (waits : Bool) × (rest : List ℕ) × (left ≡ Some rest) × Next room text (Asked r waits rest) × Appends out out_now (interim waits)
TellsRequest room text out (got.Refused e) held left out_now = (waits : Bool) × Next room text (Refused e waits) × Appends out out_now (interim waits)
TellsRequest room text out got.Ended held left out_now = Next room text Ended × (out_now ≡ out)
TellsRequest room text out got.Truncated held left out_now = (waits : Bool) × Next room text (Truncated waits) × Appends out out_now (interim waits)
TellsRequest room text out got.ReadFault held left out_now =
    ((left ≡ Some text) × (head_len (front held) ≡ None) × (out_now ≡ out)) ⊎ StopsBehindHead room text out out_now
TellsRequest room text out (got.WriteFault n) held left out_now = CutsInterim room text out n out_now
TellsRequest room text out got.Memory held left out_now = (out_now ≡ out) ⊎ StopsBehindHead room text out out_now

-- the same where the source tells its bytes
abbrev pub RequestTells : Room → Option (List ℕ) → Option (List ℕ) → Got → List ℕ → Option (List ℕ) → Option (List ℕ) → Type 0
RequestTells room None out g held left out_now = Unit {0}
RequestTells room (Some text) out g held left out_now = TellsRequest room text out g held left out_now

-- the interim could not be written
abbrev pub IsWriteFault : Got → Type 0
IsWriteFault (got.Request r) = ⊥
IsWriteFault (got.Refused e) = ⊥
IsWriteFault got.Ended = ⊥
IsWriteFault got.Truncated = ⊥
IsWriteFault got.ReadFault = ⊥
IsWriteFault (got.WriteFault n) = Unit {0}
IsWriteFault got.Memory = ⊥
