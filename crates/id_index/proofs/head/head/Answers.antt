use Rattle.std.proofs.Common.{◌≡◌, ℕ, ◌+◌, ◌-◌, ◌*◌, ◌^◌, ◌<◌, List, ap, sym, subst, ◌∙◌, arith}
use Rattle.id_index.specs.Heads.{BeginsWithBytes, behind, first_byte, head_from}
use Rattle.id_index.proofs.Digits.{fits, one_byte, one_digit, room-goes_on}
use Rattle.id_index.proofs.head.head.Goals as goal

pub overflow_mul-head : goal.overflow_mul-head
overflow_mul-head c =
    let some : 0 < c.loop-left.left = omega arith in
    let room = room-goes_on c.loop-left.head c.take_byte-byte.result.0 c.loop-left.left some (omega arith) c.loop-left.invariant.room in
    let f : c.loop-left.head * 256 + c.take_byte-byte.result.0 < 2 ^ 128 = fits _ _ room in
    omega arith

pub overflow_add-head : goal.overflow_add-head
overflow_add-head c =
    let some : 0 < c.loop-left.left = omega arith in
    let room = room-goes_on c.loop-left.head c.take_byte-byte.result.0 c.loop-left.left some (omega arith) c.loop-left.invariant.room in
    let f : c.loop-left.head * 256 + c.take_byte-byte.result.0 < 2 ^ 128 = fits _ _ room in
    omega arith

pub loop-left-preserved : goal.loop-left-preserved
loop-left-preserved c =
    let some : 0 < c.loop-left.left = omega arith in
    let less : c.take_byte-byte.result.0 < 256 = omega arith in
    let byte : c.take_byte-byte.result.0 ≡ first_byte c.loop-left.rest.now = c.take_byte-byte.ensures.byte in
    let later : c.take_byte-byte.result.1.now ≡ behind c.loop-left.rest.now = c.take_byte-byte.ensures.later in
    record {
      value = ap (λ (b : ℕ). head_from (c.loop-left.head * 256 + b) (c.loop-left.left - 1) c.take_byte-byte.result.1.now) byte
          ∙ ap (λ (t : List ℕ). head_from (c.loop-left.head * 256 + first_byte c.loop-left.rest.now) (c.loop-left.left - 1) t) later
          ∙ sym (one_digit c.loop-left.head c.loop-left.left c.loop-left.rest.now some) ∙ c.loop-left.invariant.value;
      bytes = λ more. c.loop-left.invariant.bytes (one_byte c.loop-left.left c.loop-left.rest.now some (subst (λ (b : ℕ). b < 256) byte less)
          (subst (λ (t : List ℕ). BeginsWithBytes (c.loop-left.left - 1) t) later more));
      room = room-goes_on c.loop-left.head c.take_byte-byte.result.0 c.loop-left.left some less c.loop-left.invariant.room;
    }
