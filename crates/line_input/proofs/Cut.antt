-- A text cut at its first line end.
use Rattle.std.proofs.Common.{◌≡◌, inl, inr, ℕ, suc, ◌+◌, ◌<◌, Bool, true, false, List, [], ◌∷◌, ◌++◌, length, take, drop, drop-cons, get_or, refl, sym, ap, subst, ◌∙◌, add-one, arith}
use Rattle.std.specs.Prelude.{◌==◌, filter}
use Rattle.std.specs.List.{slice_split, enumerate_from}
use Rattle.std.proofs.lemmas.List.{take-append-drop, get_or_default, get_or-take, length-take-le}
use Rattle.std.proofs.lemmas.List.Splits.{slice_split_none, slice_split_at}
use Rattle.line_input.specs.Lines.{lines, numbered, has_bytes, CutsLine, NoneBefore}

pub no_true : (b : Bool) → (b ≡ true → ⊥) → b ≡ false
no_true true h = absurd (h refl)
no_true false h = refl

pub not_here : (text : List ℕ) (n k d : ℕ) → NoneBefore text n → k < n → k < length text → (get_or text k d == 10) ≡ false
not_here text n k d none below lt = no_true (get_or text k d == 10) (λ e. none k (omega arith) below (subst (λ (x : ℕ). (x == 10) ≡ true) (get_or_default text k d 0 lt) e))

pub uncut : (text : List ℕ) → NoneBefore text (length text) → CutsLine text text []
uncut text none = inr (slice_split_none (λ b. b == 10) text (λ k d lt. not_here text (length text) k d none lt lt), refl)

pub cut_at : (text : List ℕ) (at : ℕ) → at < length text → NoneBefore text at → (get_or text at 0 == 10) ≡ true → CutsLine text (take at text) (drop (at + 1) text)
cut_at text at lt none is =
    let whole : text ≡ take at text ++ (get_or text at 0 ∷ drop (suc at) text) = sym (take-append-drop at text) ∙ ap (λ (x : List ℕ). take at text ++ x) (drop-cons text at 0 lt) in
    let long : length (take at text) ≡ at = length-take-le at text (omega arith) in
    let split : slice_split (λ (b : ℕ). b == 10) (take at text ++ (get_or text at 0 ∷ drop (suc at) text)) ≡ take at text ∷ slice_split (λ (b : ℕ). b == 10) (drop (suc at) text) =
    slice_split_at (λ b. b == 10) (take at text) (get_or text at 0) (drop (suc at) text)
    (λ k d below. let within : k < at = omega (arith, long) in ap (λ (x : ℕ). x == 10) (get_or-take at text k d within) ∙ not_here text at k d none within (omega arith)) is in
    inl (ap (slice_split (λ (b : ℕ). b == 10)) whole ∙ split ∙ ap (λ (n : ℕ). take at text ∷ slice_split (λ (b : ℕ). b == 10) (drop n text)) (sym (add-one at)))

-- ---- the numbered lines

numbered-cut : (n : ℕ) (text line after : List ℕ) → CutsLine text line after → numbered n text ≡ filter (λ (p : ℕ × List ℕ). has_bytes p.1) ((n, line) ∷ enumerate_from (n + 1) (lines after))
numbered-cut n text line after (inl e) = ap (λ (ls : List (List ℕ)). filter (λ (p : ℕ × List ℕ). has_bytes p.1) (enumerate_from n ls)) e
numbered-cut n text line after (inr p) =
    ap (λ (ls : List (List ℕ)). filter (λ (p : ℕ × List ℕ). has_bytes p.1) (enumerate_from n ls)) p.0
    ∙ ap (λ (a : List ℕ). filter (λ (p : ℕ × List ℕ). has_bytes p.1) ((n, line) ∷ enumerate_from (n + 1) (lines a))) (sym p.1)

-- an empty line is passed over
pub passed : (n : ℕ) (text line after : List ℕ) → CutsLine text line after → length line ≡ 0 → numbered n text ≡ numbered (n + 1) after
passed n text [] after cut none = numbered-cut n text [] after cut
passed n text (c ∷ cs) after cut none = absurd (omega arith)

-- any other one is given
pub given : (n : ℕ) (text line after : List ℕ) → CutsLine text line after → 0 < length line → numbered n text ≡ (n, line) ∷ numbered (n + 1) after
given n text [] after cut some = absurd (omega arith)
given n text (c ∷ cs) after cut some = numbered-cut n text (c ∷ cs) after cut

pub all_given : (n : ℕ) (text : List ℕ) → length text ≡ 0 → numbered n text ≡ []
all_given n [] none = refl
all_given n (c ∷ cs) none = absurd (omega arith)
