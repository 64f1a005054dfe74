-- From the fields of a head to what the head is judged to be.
use Rattle.std.proofs.Common.{◌≡◌, ℕ, ◌+◌, Bool, true, false, List, [], length, take, drop, Some, refl, sym, ap, ◌∙◌, arith}
use Rattle.std.specs.Prelude.{Ok, Err}
use Rattle.std.specs.List.{position_or_len, before_first, after_first}
use Rattle.std.proofs.lemmas.List.{take_all, drop_all}
use Rattle.std.proofs.lemmas.List.Sums.{position_or_len_is}
use Rattle.memchr.specs.Find.{NoneBefore, Nowhere, Passes, is_byte}
use Rattle.httparse.specs.Grammar.{RequestHead}
use Rattle.http_wire.specs.declared.fault.WireFault.{WireFault}
use Rattle.http_wire.specs.declared.fault.Framing.{Framing}
use Rattle.http_wire.specs.declared.request.Request.{Request}
use Rattle.http_wire.specs.declared.room.Room.{Room}
use Rattle.http_wire.specs.Bytes.{is_question}
use Rattle.http_wire.specs.Fields.{Header, headers_of, asking, framing, path_of, waits}
use Rattle.http_wire.specs.Rooms.{limit_at}
use Rattle.http_wire.specs.Requests.{Head, RefusedHead, framed, opened}

is_false : (b : Bool) → ¬ (b ≡ true) → b ≡ false
is_false true h = absurd (h refl)
is_false false h = refl

question-at : (xs : List ℕ) (k : ℕ) → (NoneBefore (Passes (is_byte 63) xs) 0 (length xs) k × Passes (is_byte 63) xs k) → position_or_len is_question xs ≡ k
question-at xs k h = position_or_len_is is_question xs k 0 (omega (arith, h.0.high)) (λ j lt. is_false _ (h.0.before j (omega arith) lt)) (λ lt. h.1)

question-none : (xs : List ℕ) → Nowhere (Passes (is_byte 63) xs) 0 (length xs) → position_or_len is_question xs ≡ length xs
question-none xs h = position_or_len_is is_question xs (length xs) 0 (omega arith) (λ k lt. is_false _ (h k (omega arith) lt)) (λ lt. absurd (omega arith))

pub path-at : (xs : List ℕ) (k : ℕ) → (NoneBefore (Passes (is_byte 63) xs) 0 (length xs) k × Passes (is_byte 63) xs k) → take k xs ≡ before_first is_question xs
path-at xs k h = ap (λ n. take n xs) (sym (question-at xs k h))

pub query-at : (xs : List ℕ) (k : ℕ) → (NoneBefore (Passes (is_byte 63) xs) 0 (length xs) k × Passes (is_byte 63) xs k) → drop (k + 1) xs ≡ after_first is_question xs
query-at xs k h = ap (λ n. drop (n + 1) xs) (sym (question-at xs k h))

pub path-none : (xs : List ℕ) → Nowhere (Passes (is_byte 63) xs) 0 (length xs) → xs ≡ before_first is_question xs
path-none xs h = sym (ap (λ n. take n xs) (question-none xs h) ∙ take_all (length xs) xs (omega arith))

pub query-none : (xs : List ℕ) → Nowhere (Passes (is_byte 63) xs) 0 (length xs) → [] ≡ after_first is_question xs
query-none xs h = sym (ap (λ n. drop (n + 1) xs) (question-none xs h) ∙ drop_all (length xs + 1) xs (omega arith))

pub refused : (room : Room) (h : RequestHead) (limit : ℕ) (hs : List Header) (e : WireFault) (rest : List ℕ) → limit ≡ limit_at room (path_of h) → hs ≡ headers_of h → Err e ≡ framing limit hs → opened room (Some h) rest ≡ RefusedHead e
unfolding opened
refused room h limit hs e rest l same is = ap (framed h rest) ((λ i. framing (sym l i) (sym same i)) ∙ sym is)

pub accepted : (room : Room) (h : RequestHead) (limit : ℕ) (hs : List Header) (f : Framing) (w : Bool) (a : Request) (method target : List ℕ) (minor : ℕ) (rest : List ℕ)
    → limit ≡ limit_at room (path_of h) → hs ≡ headers_of h → method ≡ h.method → target ≡ h.target → minor ≡ h.minor
    → Ok f ≡ framing limit hs → w ≡ waits minor hs f → a ≡ asking method target minor hs → opened room (Some h) rest ≡ Head a f w rest
unfolding opened
accepted room h limit hs f w a method target minor rest l same m t v is waiting asks =
    ap (framed h rest) ((λ i. framing (sym l i) (sym same i)) ∙ sym is)
    ∙ (λ i. Head (asking (sym m i) (sym t i) (sym v i) (sym same i)) f (waits (sym v i) (sym same i) f) rest)
    ∙ (λ i. Head (sym asks i) f (sym waiting i) rest)

-- what stands before the first of a byte
pub before-at : (a : ℕ) (xs : List ℕ) (k : ℕ) → (NoneBefore (Passes (is_byte a) xs) 0 (length xs) k × Passes (is_byte a) xs k) → take k xs ≡ before_first (is_byte a) xs
before-at a xs k h = ap (λ n. take n xs) (sym (position_or_len_is (is_byte a) xs k 0 (omega (arith, h.0.high)) (λ j lt. is_false _ (h.0.before j (omega arith) lt)) (λ lt. h.1)))

pub before-none : (a : ℕ) (xs : List ℕ) → Nowhere (Passes (is_byte a) xs) 0 (length xs) → xs ≡ before_first (is_byte a) xs
before-none a xs h = sym (ap (λ n. take n xs) (position_or_len_is (is_byte a) xs (length xs) 0 (omega arith) (λ k lt. is_false _ (h k (omega arith) lt)) (λ lt. absurd (omega arith))) ∙ take_all (length xs) xs (omega arith))
