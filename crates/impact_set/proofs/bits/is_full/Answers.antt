use Rattle.std.proofs.Common.{ℕ, ◌≡◌, ◌-◌, ◌*◌, ◌/◌, ◌%◌, ◌^◌, inl, inr, get_or, ap, ◌∙◌, arith}
use Rattle.std.proofs.lemmas.Bool.{cases_lt, eqb-true}
use Rattle.std.proofs.lemmas.Nat.{one_shl}
use Rattle.impact_set.proofs.Blocks.{set-in-ones}
use Rattle.impact_set.proofs.bits.is_full.Goals as goal

pub returns-then-whole-end : goal.returns-then-whole-end
returns-then-whole-end c same n first_le end_gt lt =
    let whole = eqb-true c.min-whole.result c.args.end same in
    set-in-ones c.args.words.now 64 n (c.are_all.ensures c.if-are_all.true (n / 64) first_le (omega (arith, whole))) (omega arith)

pub returns-else-whole-end : goal.returns-else-whole-end
returns-else-whole-end c is n first_le end_gt lt =
    let words = c.args.words.now in
    let whole = c.min-whole.result in
    let part = c.args.count % 64 in
    elim (cases_lt (n / 64) c.min-whole.result) [
      | inl before ↦ set-in-ones words 64 n (c.are_all.ensures c.if-are_all.true (n / 64) first_le before) (omega arith)
      | inr le ↦
          let last : n / 64 ≡ whole = omega (arith, c.min-whole.ensures) in
          let same : whole ≡ c.args.count / 64 = omega (arith, c.min-whole.ensures) in
          let ones = ap (λ (x : ℕ). x - 1) (one_shl part 64 (omega arith)) in
          set-in-ones words part n
          (ap (λ (i : ℕ). get_or words i 0) last ∙ eqb-true (get_or words whole 0) (1 * 2 ^ part % 2 ^ 64 - 1) is ∙ ones) (omega arith)
    ]
