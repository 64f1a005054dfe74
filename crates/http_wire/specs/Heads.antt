-- What a reader of a head answers, with the interim reply.
use Rattle.std.specs.Prelude.{◌≡◌, ◌<◌, ◌^◌, ℕ, Bool, true, List, length, take, Option, Some, None}
use Rattle.std.specs.Io.KnownBytes.{Appends}
use Rattle.http_wire.specs.declared.fault.Framing.{Framing}
use Rattle.http_wire.specs.declared.room.Room.{Room}
use Rattle.http_wire.specs.declared.head.GotHead.{GotHead}
use Rattle.http_wire.specs.declared.head.GotHead.TheVariants as got
use Rattle.http_wire.specs.Ends.{head_len, front}
use Rattle.http_wire.specs.Requests.{Head, RefusedHead, EndedBefore, TruncatedHead, Opens, OpensWith, body, interim}
use Rattle.http_wire.specs.Rests.{left_of, work_of}
use Rattle.http_wire.specs.Rooms.{limit_at}

-- the sink took only so many bytes of the interim reply
abbrev pub CutsInterim : Room → List ℕ → Option (List ℕ) → ℕ → Option (List ℕ) → Type 0
CutsInterim room text out n out_now =
    OpensWith room text true × (n < length (interim true)) × Appends out out_now (take n (interim true))

-- What the answer tells of a text, what is held and left of it, and what was written.
abbrev pub TellsHead : Room → List ℕ → Option (List ℕ) → GotHead → List ℕ → Option (List ℕ) → Option (List ℕ) → Type 0
TellsHead room text out (got.Head r rest_of_body) held left out_now =
    (f : Framing) × (waits : Bool) × (rest : List ℕ) × (left ≡ Some rest) × Opens room text (Head r f waits rest)
    × ((more : List ℕ) → left_of rest_of_body more ≡ body (limit_at room r.path) f more) × Appends out out_now (interim waits)
TellsHead room text out (got.Refused e) held left out_now = Opens room text (RefusedHead e) × (out_now ≡ out)
TellsHead room text out got.Ended held left out_now = Opens room text EndedBefore × (out_now ≡ out)
TellsHead room text out got.Truncated held left out_now = Opens room text TruncatedHead × (out_now ≡ out)
TellsHead room text out got.ReadFault held left out_now = (left ≡ Some text) × (head_len (front held) ≡ None) × (out_now ≡ out)
TellsHead room text out (got.WriteFault n) held left out_now = CutsInterim room text out n out_now
TellsHead room text out got.Memory held left out_now = out_now ≡ out

-- the same where the source tells its bytes
abbrev pub HeadTells : Room → Option (List ℕ) → Option (List ℕ) → GotHead → List ℕ → Option (List ℕ) → Option (List ℕ) → Type 0
HeadTells room None out g held left out_now = Unit {0}
HeadTells room (Some text) out g held left out_now = TellsHead room text out g held left out_now

-- the body that is left has fewer than 2 ^ 64 bytes
abbrev pub IsCounted : GotHead → Type 0
IsCounted (got.Head r left) = work_of left < 2 ^ 64
IsCounted (got.Refused e) = Unit {0}
IsCounted got.Ended = Unit {0}
IsCounted got.Truncated = Unit {0}
IsCounted got.ReadFault = Unit {0}
IsCounted (got.WriteFault n) = Unit {0}
IsCounted got.Memory = Unit {0}

-- the interim could not be written
abbrev pub IsWriteFault : GotHead → Type 0
IsWriteFault (got.Head r left) = ⊥
IsWriteFault (got.Refused e) = ⊥
IsWriteFault got.Ended = ⊥
IsWriteFault got.Truncated = ⊥
IsWriteFault got.ReadFault = ⊥
IsWriteFault (got.WriteFault n) = Unit {0}
IsWriteFault got.Memory = ⊥
