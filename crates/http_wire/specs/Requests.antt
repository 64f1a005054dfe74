-- What a text asks (RFC 9112), where the limits and the refusals are our own.
use Rattle.std.specs.Prelude.{◌≡◌, ℕ, Bool, false, nat_le, if◌then◌else◌, ◌==◌, List, [], length, take, drop, Option, Some, None, Result, Ok, Err, codes}
use Rattle.httparse.specs.Grammar.{RequestHead}
use Rattle.http_wire.specs.declared.fault.WireFault.{WireFault}
use Rattle.http_wire.specs.declared.fault.WireFault.TheVariants as faults
use Rattle.http_wire.specs.declared.fault.Framing.{Framing}
use Rattle.http_wire.specs.declared.fault.Framing.TheVariants as framings
use Rattle.http_wire.specs.declared.request.Request.{Request}
use Rattle.http_wire.specs.declared.room.Room.{Room}
use Rattle.http_wire.specs.Ends.{without_line_ends, head_len, most_head, front, IsHead}
use Rattle.http_wire.specs.Fields.{asked, framing, headers_of, path_of, waits}
use Rattle.http_wire.specs.Rooms.{limit_at}
use Rattle.http_wire.specs.Chunks.{Body, Whole, Bad, Short, chunked, sized}

-- what a text says up to the end of a head
pub data Opening : Type 0 where
  -- a request without its body, how the body is framed, whether the client waits for `100 Continue`, and the text behind the head
  Head : Request → Framing → Bool → List ℕ → Opening
  RefusedHead : WireFault → Opening
  EndedBefore : Opening
  TruncatedHead : Opening

-- What a text asks. Where a head was read, it is also said whether the client waits for `100 Continue`.
pub data Outcome : Type 0 where
  -- a request with its body, and the text behind it
  Asked : Request → Bool → List ℕ → Outcome
  Refused : WireFault → Bool → Outcome
  -- the text ended between requests
  Ended : Outcome
  -- the text ended inside a request
  Truncated : Bool → Outcome

abbrev pub framed : RequestHead → List ℕ → Result Framing WireFault → Opening
framed h rest (Err e) = RefusedHead e
framed h rest (Ok f) = Head (asked h) f (waits h.minor (headers_of h) f) rest

-- what is behind a head that is read so
unfoldable pub opened : Room → Option RequestHead → List ℕ → Opening
opened room None rest = RefusedHead faults.BadHead
opened room (Some h) rest = framed h rest (framing (limit_at room (path_of h)) (headers_of h))

-- where no head ends within its bytes
unfoldable pub unopened : List ℕ → Opening
unopened text =
    if nat_le most_head (length text) then RefusedHead faults.HeadTooLong
    else if length (without_line_ends text) == 0 then EndedBefore
    else TruncatedHead

-- Whether the opening is that of the text, by where its head ends.
abbrev pub OpensAt : Room → List ℕ → Option ℕ → Opening → Type 0
OpensAt room text None o = o ≡ unopened text
OpensAt room text (Some n) o = (head : Option RequestHead) × IsHead (take n (without_line_ends text)) head × (o ≡ opened room head (drop n (without_line_ends text)))

-- the text opens so, where this is the room for bodies
abbrev pub Opens : Room → List ℕ → Opening → Type 0
Opens room text o = OpensAt room text (head_len (front text)) o

-- the text opens with a head, whose client waits for `100 Continue` or doesn't
abbrev pub OpensWith : Room → List ℕ → Bool → Type 0
OpensWith room text waits = (r : Request) × (f : Framing) × (rest : List ℕ) × Opens room text (Head r f waits rest)

abbrev pub body : ℕ → Framing → List ℕ → Body
body limit (framings.Sized n) rest = sized n rest
body limit framings.Chunked rest = chunked limit rest

-- the request with this body
abbrev pub with_bytes : Request → List ℕ → Request
with_bytes r bytes = record {
  method = r.method;
  path = r.path;
  query = r.query;
  version = r.version;
  min = r.min;
  close = r.close;
  body = bytes;
}

abbrev pub with_body : Request → Bool → Body → Outcome
with_body r waits (Whole bytes rest) = Asked (with_bytes r bytes) waits rest
with_body r waits (Bad e) = Refused e waits
with_body r waits Short = Truncated waits

-- what the text asks, once its opening is known
unfoldable pub followed : Room → Opening → Outcome
followed room (Head r f waits rest) = with_body r waits (body (limit_at room r.path) f rest)
followed room (RefusedHead e) = Refused e false
followed room EndedBefore = Ended
followed room TruncatedHead = Truncated false

-- the text asks this next
abbrev pub Next : Room → List ℕ → Outcome → Type 0
Next room text o = (opening : Opening) × Opens room text opening × (o ≡ followed room opening)

-- what is written before the body is read: the interim reply where the client waits, and nothing elsewhere (RFC 9110, section 15.2.1)
abbrev pub interim : Bool → List ℕ
interim waits = if waits then codes "HTTP/1.1 100 Continue\r\n\r\n" else []
