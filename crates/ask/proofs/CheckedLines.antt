-- Verdicts on the lines of a source as they come.
use Rattle.std.proofs.Common.{◌≡◌, ◌⊎◌, ℕ, Bool, true, false, ◌||◌, List, [], ◌++◌, Option, Some, Ok, refl, sym, ap, subst, ◌∙◌, arith, inl, inr, append_assoc}
use Rattle.std.specs.Prelude.{if◌then◌else◌}
use Rattle.std.specs.Io.KnownBytes.{IsAtEnd}
use Rattle.std.specs.List.{flat_map, list_any}
use Rattle.std.proofs.lemmas.List.{append-nil}
use Rattle.line_input.specs.Lines.{numbered}
use Rattle.line_input.specs.Reader.{GivesLine, StandsIn, current, lines_behind}
use Rattle.line_input.specs.declared.reader.LineReader.{LineReader}
use Rattle.line_input.specs.declared.reader.Next.TheVariants.{Here, End}
use Rattle.ask.specs.Checked.{AddsVerdict, checked, line_refused, line_verdict, verdicts_output}
use Rattle.ask.specs.Outputs.{IsAnswer, within}
use Rattle.ask.specs.declared.checked.Verdicts.{Verdicts}
use Rattle.ask.specs.declared.output.Output.{Output}
use Rattle.ask.proofs.Answering.{at_most, where_known}

-- the verdicts on the lines so far, and those on the lines that are left, are those on all
pub record HasChecked (input : List ℕ) (r : LineReader) (left : Option (List ℕ)) (v : Verdicts) : Type 0 where
  pub stands : StandsIn input r left
  pub text : v.text.items ++ flat_map line_verdict (lines_behind r.passed input) ≡ flat_map line_verdict (numbered 1 input)
  pub refused : (v.refused || list_any line_refused (lines_behind r.passed input)) ≡ list_any line_refused (numbered 1 input)

pub checks_none : (input : List ℕ) (r : LineReader) (left : Option (List ℕ)) (v : Verdicts) → ((xs : List ℕ) → StandsIn xs r (Some xs)) → left ≡ Some input → r.passed ≡ 0 → v.text.items ≡ [] → v.refused ≡ false
    → HasChecked input r left v
checks_none input r left v s e p t f =
    let lines : lines_behind r.passed input ≡ numbered 1 input = ap (λ (n : ℕ). lines_behind n input) p in
    record {
      stands = subst (λ (l : Option (List ℕ)). StandsIn input r l) (sym e) (s input);
      text = ap (λ (x : List ℕ). x ++ flat_map line_verdict (lines_behind r.passed input)) t ∙ ap (flat_map line_verdict) lines;
      refused = ap (λ (b : Bool). b || list_any line_refused (lines_behind r.passed input)) f ∙ ap (list_any line_refused) lines;
    }

or_assoc : (a b c : Bool) → ((a || b) || c) ≡ (a || (b || c))
or_assoc true b c = refl
or_assoc false b c = refl

pub checks_more : (input : List ℕ) (old new : LineReader) (lo ln : Option (List ℕ)) (v w : Verdicts) → HasChecked input old lo v → GivesLine input old new ln (Ok Here) → AddsVerdict (current new) v w → HasChecked input new ln w
checks_more input old new lo ln v w h g a =
    let after = lines_behind new.passed input in
    let here = g.here refl in
    record {
      stands = g.stands;
      text = ap (λ (x : List ℕ). x ++ flat_map line_verdict after) a.text ∙ append_assoc v.text.items (line_verdict (current new)) (flat_map line_verdict after)
          ∙ ap (λ (ls : List (ℕ × List ℕ)). v.text.items ++ flat_map line_verdict ls) (sym here) ∙ h.text;
      refused = ap (λ (b : Bool). b || list_any line_refused after) a.refused ∙ or_assoc v.refused (line_refused (current new)) (list_any line_refused after)
          ∙ ap (λ (ls : List (ℕ × List ℕ)). v.refused || list_any line_refused ls) (sym here) ∙ h.refused;
    }

or_none : (b : Bool) → (b || false) ≡ b
or_none true = refl
or_none false = refl

all_checked : (input : List ℕ) (r : LineReader) (left : Option (List ℕ)) (v : Verdicts) → HasChecked input r left v → lines_behind r.passed input ≡ [] → verdicts_output v ≡ checked input
unfolding checked
all_checked input r left v h none =
    let text : v.text.items ≡ flat_map line_verdict (numbered 1 input) = sym (append-nil v.text.items) ∙ ap (λ (ls : List (ℕ × List ℕ)). v.text.items ++ flat_map line_verdict ls) (sym none) ∙ h.text in
    let refused : v.refused ≡ list_any line_refused (numbered 1 input) = sym (or_none v.refused) ∙ ap (λ (ls : List (ℕ × List ℕ)). v.refused || list_any line_refused ls) (sym none) ∙ h.refused in
    ap (λ (b : Bool). record { status = if b then 5 else 0; bytes = v.text.items }) refused ∙ ap (λ (t : List ℕ). record { status = if list_any line_refused (numbered 1 input) then 5 else 0; bytes = t }) text

either : (b : Bool) (n : ℕ) → n ≡ (if b then 5 else 0) → (n ≡ 0) ⊎ (n ≡ 5)
either true n e = inr e
either false n e = inl e

pub checked_at_end : (first ln : Option (List ℕ)) (limit : ℕ) (old new : LineReader) (lo : Option (List ℕ)) (v : Verdicts) (o : Output) → ((input : List ℕ) → first ≡ Some input → HasChecked input old lo v)
    → ((input : List ℕ) → StandsIn input old lo → GivesLine input old new ln (Ok End)) → old.limit ≡ limit → IsAtEnd ln → o ≡ verdicts_output v → IsAnswer (within limit checked) first ln o
checked_at_end first ln limit old new lo v o h g l end e =
    record {
      whole = where_known first (λ input is.
          let so_far = h input is in
          let last = (g input so_far.stands).end refl in
          e ∙ all_checked input old lo v so_far last.0 ∙ at_most checked limit input (omega (arith, last.1, l)));
      end = λ z. end;
      status = either v.refused o.status (ap (λ (x : Output). x.status) e);
    }
