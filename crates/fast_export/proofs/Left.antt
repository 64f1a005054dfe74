-- One line of a text, and what is left behind it.
use Rattle.std.proofs.Common.{◌≡◌, ℕ, ◌+◌, Bool, true, false, cond, ltb, List, [], ◌∷◌, length, refl, sym, ap, ◌∙◌, arith, add-zero}
use Rattle.std.specs.Prelude.{Result, Ok, Err}
use Rattle.std.proofs.lemmas.Bool.Decides.{nat_tests}
use Rattle.fast_export.specs.declared.fault.StreamFault.{StreamFault}
use Rattle.fast_export.specs.declared.fault.StreamFault.TheVariants as faults
use Rattle.fast_export.specs.declared.grammar.Part.{Part}
use Rattle.fast_export.specs.declared.grammar.Command.{Command}
use Rattle.fast_export.specs.Lines.{Lined, Line, Nothing, Cut, TooLong, line_of}
use Rattle.fast_export.specs.Grammar.{repeats, parts_of, is_done}
use Rattle.fast_export.specs.Facts.{Facts, settled, rows_of, Answer, Took, Counts, Passed, Refused, takes, opens, with_line}
use Rattle.fast_export.specs.Stream.{Step, Next, Stop, ◌>>=◌, Outcome, Whole, Bad, Short, Turn, Again, Over, turned, all, at_end, skipping, answered, on_line, turn, part, parts, behind_command, opened, on_first_line, command}
use Rattle.fast_export.specs.Following.{left, may_end_at, Offered, Goes, Ends, first_line, with_answer, offered, behind_line}
use Rattle.fast_export.proofs.Turns.{all-turn, turn-falls, command-falls}

pub skipping-none : (f : Facts) (at : ℕ) (text : List ℕ) → skipping 0 f at text ≡ Next f at text
unfolding skipping
skipping-none f at text =
    let e : ltb (length text) 0 ≡ false = grind (arith, nat_tests) in
    rw (e, add-zero) refl

bind-bind : (s : Step) (j k : Facts → ℕ → List ℕ → Step) → ((s >>= j) >>= k) ≡ (s >>= λ f at text. (j f at text >>= k))
bind-bind (Next f at text) j k = refl
bind-bind (Stop o) j k = refl

-- ---- parts

once : (p : Part) (f : Facts) (at : ℕ) (text : List ℕ) → repeats p ≡ false → part p f at text ≡ turned (turn p f at text) Next
unfolding part
once p f at text e = rw e refl

again : (p : Part) (f : Facts) (at : ℕ) (text : List ℕ) → repeats p ≡ true → part p f at text ≡ all (turn p) f at text
unfolding part
again p f at text e = rw e refl

same-part : (p : Part) (r : Turn) → repeats p ≡ true → turned r (all (turn p)) ≡ turned r (part p)
same-part p (Again f at text) e = sym (again p f at text e)
same-part p (Over s) e = refl

again-turn : (p : Part) (f : Facts) (at : ℕ) (text : List ℕ) → repeats p ≡ true → part p f at text ≡ turned (turn p f at text) (part p)
again-turn p f at text e = again p f at text e ∙ all-turn (turn p) (turn-falls p) f at text ∙ same-part p (turn p f at text) e

-- what comes behind a turn of a part
onward : Part → Bool → Facts → ℕ → List ℕ → Step
onward p true = part p
onward p false = Next

part-turn : (p : Part) (b : Bool) (f : Facts) (at : ℕ) (text : List ℕ) → repeats p ≡ b → part p f at text ≡ turned (turn p f at text) (onward p b)
unfolding onward
part-turn p true f at text e = again-turn p f at text e
part-turn p false f at text e = once p f at text e

-- ---- what is left of a text

left-parts : (most : ℕ) (ps : List Part) (f : Facts) (at : ℕ) (text : List ℕ) → left most ps f at text ≡ (parts ps f at text >>= all (command most))
unfolding left
left-parts most ps f at text = refl

parts-part : (most : ℕ) (p : Part) (ps : List Part) (f : Facts) (at : ℕ) (text : List ℕ) → left most (p ∷ ps) f at text ≡ ((part p f at text >>= parts ps) >>= all (command most))
unfolding left parts
parts-part most p ps f at text = refl

pub parts-none : (most : ℕ) (f : Facts) (at : ℕ) (text : List ℕ) → left most [] f at text ≡ all (command most) f at text
unfolding left parts
parts-none most f at text = refl

bind-left : (most : ℕ) (ps : List Part) (s : Step) → (s >>= λ f at text. (parts ps f at text >>= all (command most))) ≡ (s >>= left most ps)
bind-left most ps (Next f at text) = sym (left-parts most ps f at text)
bind-left most ps (Stop o) = refl

left-part : (most : ℕ) (p : Part) (ps : List Part) (f : Facts) (at : ℕ) (text : List ℕ) → left most (p ∷ ps) f at text ≡ (part p f at text >>= left most ps)
left-part most p ps f at text =
    parts-part most p ps f at text ∙ bind-bind (part p f at text) (parts ps) (all (command most)) ∙ bind-left most ps (part p f at text)

left-none : (most : ℕ) (f : Facts) (at : ℕ) (text : List ℕ) → left most [] f at text ≡ turned (command most f at text) (all (command most))
left-none most f at text = parts-none most f at text ∙ all-turn (command most) (command-falls most) f at text

command-line : (most : ℕ) (f : Facts) (at : ℕ) (text : List ℕ) (l : Lined) → line_of text ≡ l → command most f at text ≡ on_first_line most f at l
unfolding command
command-line most f at text l e = ap (on_first_line most f at) e

turn-line : (p : Part) (f : Facts) (at : ℕ) (text : List ℕ) (l : Lined) → line_of text ≡ l → turn p f at text ≡ on_line p f at text l
turn-line p f at text l e = ap (on_line p f at text) e

-- ---- one line

behind-left : (most : ℕ) (s : Step) → turned (behind_command s) (all (command most)) ≡ (s >>= all (command most))
behind-left most (Next f at text) = refl
behind-left most (Stop o) = refl

begun : (most : ℕ) (ps : List Part) (f : Facts) (at : ℕ) (more : List ℕ) → turned (behind_command (parts ps f at more)) (all (command most)) ≡ (skipping 0 f at more >>= left most ps)
begun most ps f at more =
    behind-left most (parts ps f at more) ∙ sym (left-parts most ps f at more) ∙ sym (ap (λ (s : Step). s >>= left most ps) (skipping-none f at more))

opened-line : (most : ℕ) (r : Result Command StreamFault) (f : Facts) (at : ℕ) (more : List ℕ) → turned (opened r f at more) (all (command most)) ≡ behind_line most (first_line r f) at more
opened-line most (Err e) f at more = refl
opened-line most (Ok c) f at more = cases (is_done c)
  where
    cases : (b : Bool) → turned (cond b (Over (Stop (Whole f.rows))) (behind_command (parts (parts_of c) (with_line c f) at more))) (all (command most))
        ≡ behind_line most (cond b (Ends f) (Goes (parts_of c) 0 (with_line c f))) at more
    cases true = refl
    cases false = begun most (parts_of c) (with_line c f) at more

answer-line : (most : ℕ) (p : Part) (ps : List Part) (b : Bool) (a : Answer) (f : Facts) (at next : ℕ) (text more : List ℕ) (others : Offered) → repeats p ≡ b
    → left most ps f at text ≡ behind_line most others next more
    → (turned (answered a f next more (Next f at text)) (onward p b) >>= left most ps) ≡ behind_line most (with_answer p ps f a others) next more
unfolding onward
answer-line most p ps true (Took g) f at next text more others e h =
    rw e (sym (left-part most p ps g next more) ∙ sym (ap (λ (s : Step). s >>= left most (p ∷ ps)) (skipping-none g next more)))
answer-line most p ps false (Took g) f at next text more others e h =
    rw e (sym (ap (λ (s : Step). s >>= left most ps) (skipping-none g next more)))
answer-line most p ps b (Counts n) f at next text more others e h = refl
answer-line most p ps b Passed f at next text more others e h = h
answer-line most p ps b (Refused d) f at next text more others e h = refl

pub left-line : (most : ℕ) (ps : List Part) (f : Facts) (at : ℕ) (text line more : List ℕ) → line_of text ≡ Line line more
    → left most ps f at text ≡ behind_line most (offered most ps f at line) (at + (length line + 1)) more
unfolding offered
left-line most [] f at text line more e =
    left-none most f at text ∙ ap (λ (r : Turn). turned r (all (command most))) (command-line most f at text (Line line more) e)
    ∙ opened-line most (opens most (length (rows_of f)) at line) (settled f) (at + (length line + 1)) more
left-line most (p ∷ ps) f at text line more e =
    left-part most p ps f at text
    ∙ ap (λ (s : Step). s >>= left most ps) (part-turn p (repeats p) f at text refl ∙ ap (λ (r : Turn). turned r (onward p (repeats p))) (turn-line p f at text (Line line more) e))
    ∙ answer-line most p ps (repeats p) (takes p f at line) f at (at + (length line + 1)) text more (offered most ps f at line) refl (left-line most ps f at text line more e)

-- ---- no line

part-stops : (p : Part) (f : Facts) (at : ℕ) (text : List ℕ) (o : Outcome) → turn p f at text ≡ Over (Stop o) → part p f at text ≡ Stop o
part-stops p f at text o e = part-turn p (repeats p) f at text refl ∙ ap (λ (r : Turn). turned r (onward p (repeats p))) e

part-left : (most : ℕ) (p : Part) (ps : List Part) (f : Facts) (at : ℕ) (text : List ℕ) (o : Outcome) → turn p f at text ≡ Over (Stop o) → left most (p ∷ ps) f at text ≡ Stop o
part-left most p ps f at text o e = left-part most p ps f at text ∙ ap (λ (s : Step). s >>= left most ps) (part-stops p f at text o e)

none-left : (most : ℕ) (f : Facts) (at : ℕ) (text : List ℕ) (o : Outcome) → command most f at text ≡ Over (Stop o) → left most [] f at text ≡ Stop o
none-left most f at text o e = left-none most f at text ∙ ap (λ (r : Turn). turned r (all (command most))) e

pub left-too_long : (most : ℕ) (ps : List Part) (f : Facts) (at : ℕ) (text : List ℕ) → line_of text ≡ TooLong → left most ps f at text ≡ Stop (Bad (faults.LineTooLong at))
left-too_long most [] f at text e = none-left most f at text _ (command-line most f at text TooLong e)
left-too_long most (p ∷ ps) f at text e = part-left most p ps f at text _ (turn-line p f at text TooLong e)

pub left-cut : (most : ℕ) (ps : List Part) (f : Facts) (at : ℕ) (text : List ℕ) → line_of text ≡ Cut → left most ps f at text ≡ Stop Short
left-cut most [] f at text e = none-left most f at text _ (command-line most f at text Cut e)
left-cut most (p ∷ ps) f at text e = part-left most p ps f at text _ (turn-line p f at text Cut e)

pub left-nothing : (most : ℕ) (ps : List Part) (f : Facts) (at : ℕ) (text : List ℕ) → line_of text ≡ Nothing → left most ps f at text ≡ Stop (at_end (may_end_at ps) f)
left-nothing most [] f at text e = none-left most f at text _ (command-line most f at text Nothing e)
left-nothing most (p ∷ ps) f at text e = part-left most p ps f at text _ (turn-line p f at text Nothing e)
