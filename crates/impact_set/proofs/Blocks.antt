-- The bits of a block by its words.
use Rattle.std.proofs.Common.{◌≡◌, ℕ, ◌+◌, ◌-◌, ◌*◌, ◌/◌, ◌%◌, ◌^◌, ◌<◌, ◌≤◌, true, false, eqb, List, length, get_or, ap, ◌∙◌, arith}
use Rattle.std.specs.Prelude.{min}
use Rattle.std.specs.Int.{bit_at}
use Rattle.std.proofs.lemmas.Nat.Bits.{bit_at-zero, bit_at_ones}
use Rattle.impact_set.specs.Bits.{is_set, bits_of, AreBits}
use Rattle.impact_set.proofs.Setting.{at-bits}

pub no-bit-of : (count : ℕ) (words : List ℕ) → AreBits count words → (first end n : ℕ) → first ≡ n / 4096 * 64 → end ≡ min (first + 64) (length words)
    → ((i : ℕ) → first ≤ i → i < end → get_or words i 0 ≡ 0) → n < count → get_or (bits_of count words) n false ≡ false
no-bit-of count words are first end n first_is end_is none lt =
    at-bits count words are n ∙ ap (λ (w : ℕ). eqb (bit_at w (n % 64)) 1) (none (n / 64) (omega arith) (omega (arith, are.size)))
    ∙ ap (λ (b : ℕ). eqb b 1) (bit_at-zero (n % 64))

pub each-bit-of : (count : ℕ) (words : List ℕ) → AreBits count words → (first end n : ℕ) → first ≡ n / 4096 * 64 → end ≡ min (first + 64) (length words)
    → ((k : ℕ) → first ≤ k / 64 → k / 64 < end → k < count → is_set words k ≡ true) → n < count → get_or (bits_of count words) n false ≡ true
each-bit-of count words are first end n first_is end_is all lt =
    at-bits count words are n ∙ all n (omega arith) (omega (arith, are.size)) lt

-- a word that has the lowest bits has each of them
pub set-in-ones : (words : List ℕ) (k n : ℕ) → get_or words (n / 64) 0 ≡ 2 ^ k - 1 → n % 64 < k → is_set words n ≡ true
set-in-ones words k n is lt = ap (λ (w : ℕ). eqb (bit_at w (n % 64)) 1) is ∙ ap (λ (b : ℕ). eqb b 1) (bit_at_ones k (n % 64) lt)
