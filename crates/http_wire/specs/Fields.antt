-- What the fields of a head say (RFC 9112, sections 6 and 9; RFC 9110, sections 8.4 and 10.1.1).
use Rattle.std.specs.Prelude.{ℕ, Bool, true, false, not, nat_lt, nat_le, if◌then◌else◌, ◌&&◌, ◌||◌, ◌==◌, List, [], ◌∷◌, map, length, Option, Some, None, Result, Ok, Err, codes}
use Rattle.std.specs.List.{list_all, list_any, before_first, after_first}
use Rattle.osv_prim.specs.Digits.{number}
use Rattle.httparse.specs.Grammar.{RequestHead}
use Rattle.httparse.specs.Spans.{name_and_value}
use Rattle.http_wire.specs.declared.fault.WireFault.{WireFault}
use Rattle.http_wire.specs.declared.fault.WireFault.TheVariants as faults
use Rattle.http_wire.specs.declared.fault.Framing.{Framing}
use Rattle.http_wire.specs.declared.fault.Framing.TheVariants as framings
use Rattle.http_wire.specs.declared.request.Request.{Request}
use Rattle.http_wire.specs.Bytes.{is_question, is_same_word, is_length, members}

-- a name and a value, without the blanks round it
abbrev pub Header : Type 0
Header = List ℕ × List ℕ

-- the fields of a head, in order
abbrev pub headers_of : RequestHead → List Header
headers_of h = map name_and_value h.fields

-- the values of the fields of a name, in order
abbrev pub values : List ℕ → List Header → List (List ℕ)
values name [] = []
values name (h ∷ hs) = if is_same_word h.0 name then h.1 ∷ values name hs else values name hs

abbrev pub lengths : List Header → List (List ℕ)
lengths hs = values (codes "content-length") hs

abbrev pub codings : List Header → List (List ℕ)
codings hs = values (codes "transfer-encoding") hs

abbrev pub contents : List Header → List (List ℕ)
contents hs = values (codes "content-encoding") hs

-- there is one
abbrev pub is_there : {X : Type 0} → List X → Bool
is_there [] = false
is_there (x ∷ xs) = true

-- the coding is there no more than once, and is `chunked`
unfoldable pub are_chunked : List (List ℕ) → Bool
are_chunked vs = nat_le (length vs) 1 && list_all (λ v. is_same_word v (codes "chunked")) vs

-- each value is a length, and they are one number
unfoldable pub are_lengths : List (List ℕ) → Bool
are_lengths [] = true
are_lengths (v ∷ vs) = is_length v && list_all (λ w. is_length w && (number w == number v)) vs

-- the body's length, 0 where no field says it
unfoldable pub length_of : List (List ℕ) → ℕ
length_of [] = 0
length_of (v ∷ vs) = number v

unfoldable pub are_identity : List (List ℕ) → Bool
are_identity vs = list_all (λ v. is_same_word v (codes "identity")) vs

-- How the body is framed, or the first refusal, in the order of the tests: 3, 8, 2, 6, 5.
unfoldable pub framing : ℕ → List Header → Result Framing WireFault
framing limit hs =
    if is_there (lengths hs) && is_there (codings hs) then Err faults.BothLengths
    else if not (are_chunked (codings hs)) then Err faults.TransferCoding
    else if not (are_lengths (lengths hs)) then Err faults.BadLength
    else if not (are_identity (contents hs)) then Err faults.ContentCoding
    else if nat_lt limit (length_of (lengths hs)) then Err (faults.BodyTooLarge limit)
    else if is_there (codings hs) then Ok framings.Chunked
    else Ok (framings.Sized (length_of (lengths hs)))

-- a body is to come
abbrev pub has_body : Framing → Bool
has_body framings.Chunked = true
has_body (framings.Sized n) = nat_lt 0 n

-- the client waits for `100 Continue`
unfoldable pub waits : ℕ → List Header → Framing → Bool
waits minor hs framed = (minor == 1) && (list_any (λ v. is_same_word v (codes "100-continue")) (values (codes "expect") hs) && has_body framed)

-- the request asks for close
unfoldable pub asks_close : ℕ → List Header → Bool
asks_close minor hs = (minor == 0) || list_any (λ v. list_any (λ m. is_same_word m (codes "close")) (members v)) (values (codes "connection") hs)

abbrev pub first_of : {X : Type 0} → List X → Option X
first_of [] = None
first_of (x ∷ xs) = Some x

-- What a head asks, as a request without a body. The path is the target before its first `?`, the query what follows it.
unfoldable pub asking : List ℕ → List ℕ → ℕ → List Header → Request
asking method target minor hs = record {
  method = method;
  path = before_first is_question target;
  query = after_first is_question target;
  version = minor;
  min = first_of (values (codes "x-osv-min-snapshot") hs);
  close = asks_close minor hs;
  body = [];
}

-- the path that a head asks for
abbrev pub path_of : RequestHead → List ℕ
path_of h = before_first is_question h.target

abbrev pub asked : RequestHead → Request
asked h = asking h.method h.target h.minor (headers_of h)
