use Rattle.std.proofs.Common.{◌≡◌, ◌≤◌, ◌<◌, ◌+◌, ◌/◌, ◌*◌, ℕ, Bool, List, true, false, length, get_or, sym, ap, subst, ◌∙◌, arith}
use Rattle.std.specs.Prelude.{min}
use Rattle.impact_set.specs.Bits.{is_set}
use Rattle.impact_set.proofs.Setting.{length-bits}
use Rattle.impact_set.proofs.Blocks.{no-bit-of, each-bit-of}
use Rattle.impact_set.proofs.bits.Bits.block.Goals as goal

pub overflow_mul-first : goal.overflow_mul-first
overflow_mul-first c = omega (arith, c.requires, c.self.invariant.size, length-bits c.self.inside.count c.self.inside.words.items, ap (λ (xs : List Bool). length xs) c.self.view_is, ap (λ (xs : List ℕ). length xs) c.as_slice-words.ensures.value)

pub overflow_add-first : goal.overflow_add-first
overflow_add-first c = omega (arith, c.requires, c.self.invariant.size, length-bits c.self.inside.count c.self.inside.words.items, ap (λ (xs : List Bool). length xs) c.self.view_is, ap (λ (xs : List ℕ). length xs) c.as_slice-words.ensures.value)

pub returns-then-are_all : goal.returns-then-are_all
returns-then-are_all c n lt here =
    let words = c.self.inside.words.items in
    let count = c.self.inside.count in
    let low : n < count = omega (arith, lt, length-bits count words, ap (λ (xs : List Bool). length xs) c.self.view_is) in
    let none = subst (λ (ws : List ℕ). (i : ℕ) → c.args.number * 64 ≤ i → i < c.min-end.result → get_or ws i 0 ≡ 0) c.as_slice-words.ensures.value (c.are_all.ensures c.if-are_all.true) in
    let end = c.min-end.ensures ∙ ap (λ (ws : List ℕ). min (c.args.number * 64 + 64) (length ws)) c.as_slice-words.ensures.value in
    sym (ap (λ (xs : List Bool). get_or xs n false) c.self.view_is)
    ∙ no-bit-of count words c.self.invariant (c.args.number * 64) c.min-end.result n (ap (λ (b : ℕ). b * 64) (sym here)) end none low

pub returns-then-is_full : goal.returns-then-is_full
returns-then-is_full c n lt here =
    let words = c.self.inside.words.items in
    let count = c.self.inside.count in
    let low : n < count = omega (arith, lt, length-bits count words, ap (λ (xs : List Bool). length xs) c.self.view_is) in
    let all =
    subst (λ (ws : List ℕ). (k : ℕ) → c.args.number * 64 ≤ k / 64 → k / 64 < c.min-end.result → k < count → is_set ws k ≡ true) c.as_slice-words.ensures.value
    (c.is_full.ensures c.if-is_full.true) in
    let end = c.min-end.ensures ∙ ap (λ (ws : List ℕ). min (c.args.number * 64 + 64) (length ws)) c.as_slice-words.ensures.value in
    sym (ap (λ (xs : List Bool). get_or xs n false) c.self.view_is)
    ∙ each-bit-of count words c.self.invariant (c.args.number * 64) c.min-end.result n (ap (λ (b : ℕ). b * 64) (sym here)) end all low
