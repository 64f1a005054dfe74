-- What stands behind some line ends of a text.
use Rattle.std.proofs.Common.{◌≡◌, ℕ, ◌+◌, ◌<◌, true, List, [], length, drop, get_or, sym, ap, ◌∙◌, add-one, arith}
use Rattle.std.specs.Prelude.{◌==◌}
use Rattle.std.specs.List.{after_first, position_or_len}
use Rattle.std.proofs.lemmas.List.{drop_all}
use Rattle.std.proofs.lemmas.List.Sums.{position_or_len_is}
use Rattle.line_input.specs.Lines.{behind, is_line_end, NoneBefore}
use Rattle.line_input.proofs.Cut.{not_here}

-- the line end is at that place
pub first_at : (text : List ℕ) (at : ℕ) → at < length text → NoneBefore text at → (get_or text at 0 == 10) ≡ true → drop (at + 1) text ≡ after_first is_line_end text
first_at text at lt none is =
    ap (λ (i : ℕ). drop (i + 1) text) (sym (position_or_len_is is_line_end text at 0 (omega arith) (λ k below. not_here text at k 0 none below (omega arith)) (λ h. is)))

-- there is no line end
pub none_first : (text : List ℕ) → NoneBefore text (length text) → [] ≡ after_first is_line_end text
none_first text none =
    let at : position_or_len is_line_end text ≡ length text = position_or_len_is is_line_end text (length text) 0 (omega arith) (λ k below. not_here text (length text) k 0 none below below) (λ h. absurd (omega arith)) in
    sym (drop_all (position_or_len is_line_end text + 1) text (omega (arith, at)))

-- one line end more
pub one_more : (n : ℕ) (input rest after : List ℕ) → after ≡ after_first is_line_end rest → rest ≡ behind n input → after ≡ behind (n + 1) input
one_more n input rest after next here = next ∙ ap (after_first is_line_end) here ∙ ap (λ (k : ℕ). behind k input) (sym (add-one n))
