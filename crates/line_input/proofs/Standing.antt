-- Where a reader of lines stands after each of its steps.
use Rattle.std.proofs.Common.{◌≡◌, ℕ, ◌+◌, ◌<◌, ◌≤◌, true, List, [], ◌∷◌, ◌++◌, length, take, drop, get_or, Option, Some, None, Result, Ok, refl, sym, ap, subst, ◌∙◌, arith, length-append, append_assoc}
use Rattle.std.specs.Prelude.{◌==◌}
use Rattle.std.specs.Io.KnownBytes.{Consumes, IsAtEnd, Keeps}
use Rattle.std.proofs.lemmas.List.{append-nil, drop-append-le, take-append-le, take_all, drop_all, get_or_append_left, length-take-le}
use Rattle.line_input.specs.Lines.{CutsLine, NoneBefore, behind, numbered}
use Rattle.line_input.specs.Reader.{Advances, Fills, GivesLine, Holds, KnowsEnd, Marks, StandsIn, current, lines_behind, pending}
use Rattle.line_input.specs.Window.{items}
use Rattle.line_input.specs.declared.stop.ReadStop.{ReadStop}
use Rattle.line_input.specs.declared.reader.LineReader.{LineReader}
use Rattle.line_input.specs.declared.reader.Next.{Next}
use Rattle.line_input.specs.declared.reader.Next.TheVariants.{Here, End, TooLarge}
use Rattle.line_input.proofs.Behind.{first_at, none_first, one_more}
use Rattle.line_input.proofs.Cut.{all_given, cut_at, given, passed, uncut}

pub some_is : (xs ys : List ℕ) → Some xs ≡ Some ys → xs ≡ ys
some_is xs ys e = cc

-- what a call consumes where nothing came
pub consumes_none : (old new : Option (List ℕ)) → Keeps old new → Consumes old new []
consumes_none None new k = tt
consumes_none (Some xs) None k = absurd k
consumes_none (Some xs) (Some ys) k = sym k

pub keeps_all : (left : Option (List ℕ)) → Keeps left left
keeps_all None = tt
keeps_all (Some xs) = refl

-- the same bytes held otherwise
pub held_otherwise : (rest : List ℕ) (total : ℕ) (old new : LineReader) (left : Option (List ℕ)) → pending new ≡ pending old → new.taken ≡ old.taken → new.ended ≡ old.ended
    → Holds rest total old left → Holds rest total new left
held_otherwise rest total old new None p t e h = record { text = absurd cc; taken = tt; end = λ x. tt }
held_otherwise rest total old new (Some xs) p t e h =
    record { text = ap (λ (ys : List ℕ). Some (ys ++ xs)) p ∙ h.text; taken = ap (λ (n : ℕ). n + length xs) t ∙ h.taken; end = λ x. h.end (sym e ∙ x) }

-- a read
pub held_more : (rest : List ℕ) (total : ℕ) (old new : LineReader) (lo ln : Option (List ℕ)) (result : Result Next ReadStop) → old.given ≡ 0 → Fills old new lo ln result → KnowsEnd new ln
    → Holds rest total old lo → Holds rest total new ln
held_more rest total old new None ln result z f k h = absurd (let e = h.text in cc)
held_more rest total old new (Some xs) None result z f k h = absurd f.consumed
held_more rest total old new (Some xs) (Some ys) result z f k h =
    let zero : new.given ≡ 0 = f.same.1 ∙ z in
    let here : items old.window ++ xs ≡ rest = ap (λ (n : ℕ). drop n (items old.window) ++ xs) (sym z) ∙ some_is _ _ h.text in
    let joined : items new.window ++ ys ≡ rest =
    ap (λ (t : List ℕ). t ++ ys) f.items ∙ append_assoc (items old.window) f.more ys ∙ ap (λ (t : List ℕ). items old.window ++ t) (sym f.consumed) ∙ here in
    record {
      text = ap Some (ap (λ (n : ℕ). drop n (items new.window) ++ ys) zero ∙ joined);
      taken = omega (arith, f.taken, h.taken, ap length f.consumed, length-append f.more ys);
      end = k;
    }

-- the same reader and source, by other names
pub holds_as : (rest : List ℕ) (total : ℕ) (r n : LineReader) (left after : Option (List ℕ)) → r ≡ n → left ≡ after → Holds rest total n after → Holds rest total r left
holds_as rest total r n left after e f h = subst (λ (x : LineReader). Holds rest total x left) (sym e) (subst (λ (x : Option (List ℕ)). Holds rest total n x) (sym f) h)

-- ---- a line

pending_is : (r : LineReader) (w : List ℕ) (n : ℕ) → items r.window ≡ w → r.given ≡ n → pending r ≡ drop n w
pending_is r w n i g = ap (λ (k : ℕ). drop k (items r.window)) g ∙ ap (drop n) i

line_is : (r : LineReader) (w : List ℕ) (n : ℕ) → items r.window ≡ w → r.len ≡ n → take r.len (items r.window) ≡ take n w
line_is r w n i l = ap (λ (k : ℕ). take k (items r.window)) l ∙ ap (take n) i

module _ (input : List ℕ) (old r : LineReader) where
  -- the reader has the bytes behind what was passed, and no line of them is given
  abbrev pub Reads : Option (List ℕ) → Type 0
  Reads left = Holds (behind old.passed input) (length input) r left

  -- what is here, and what the source has left
  whole_text : (xs : List ℕ) → r.given ≡ 0 → Reads (Some xs) → items r.window ++ xs ≡ behind old.passed input
  whole_text xs z h = ap (λ (n : ℕ). drop n (items r.window) ++ xs) (sym z) ∙ some_is _ _ h.text

  gives_line : (new : LineReader) (xs line after : List ℕ) → CutsLine (behind old.passed input) line after → current new ≡ (old.passed + 1, line) → pending new ++ xs ≡ after → after ≡ behind (old.passed + 1) input
      → new.passed ≡ old.passed + 1 → new.taken ≡ r.taken → new.ended ≡ r.ended → Reads (Some xs) → Advances input old new (Some xs) (Ok Here)
  gives_line new xs line after cut is rest next p t e h =
      let at : behind (old.passed + 1) input ≡ behind new.passed input = ap (λ (n : ℕ). behind n input) (sym p) in
      record {
        stands = record { text = ap Some (rest ∙ next ∙ at); taken = ap (λ (n : ℕ). n + length xs) t ∙ h.taken; end = λ x. h.end (sym e ∙ x) };
        here = λ x. subst (λ (l : ℕ × List ℕ). CutsLine (behind old.passed input) l.1 (behind new.passed input)) (sym is) (subst (λ (a : List ℕ). CutsLine (behind old.passed input) line a) (next ∙ at) cut);
        end = λ x. absurd cc;
        too_large = λ x. absurd cc;
      }

  -- a line end was found in what is here
  pub found : (new : LineReader) (left : Option (List ℕ)) (at : ℕ) → r.given ≡ 0 → r.passed ≡ old.passed → at < length (items r.window) → NoneBefore (items r.window) at
      → (get_or (items r.window) at 0 == 10) ≡ true → Marks (items r.window) at (at + 1) (r.passed + 1) r new → Reads left → Advances input old new left (Ok Here)
  found new None at z p lt none is m h = absurd (let t = h.text in cc)
  found new (Some xs) at z p lt none is m h =
      let w = items r.window in
      let text = w ++ xs in
      let here : text ≡ behind old.passed input = whole_text xs z h in
      let long : at < length text = omega (arith, length-append w xs) in
      let none_in : NoneBefore text at = λ k low below b. none k low below (subst (λ (x : ℕ). (x == 10) ≡ true) (get_or_append_left w xs 0 k (omega arith)) b) in
      let is_in : (get_or text at 0 == 10) ≡ true = subst (λ (x : ℕ). (x == 10) ≡ true) (sym (get_or_append_left w xs 0 at lt)) is in
      let line : take at text ≡ take at w = take-append-le at w xs (omega arith) in
      let cut : CutsLine (behind old.passed input) (take at w) (drop (at + 1) text) =
      subst (λ (t : List ℕ). CutsLine t (take at w) (drop (at + 1) text)) here (subst (λ (l : List ℕ). CutsLine text l (drop (at + 1) text)) line (cut_at text at long none_in is_in)) in
      let np : new.passed ≡ old.passed + 1 = m.passed ∙ ap (λ (n : ℕ). n + 1) p in
      gives_line new xs (take at w) (drop (at + 1) text) cut
      (ap (λ (n : ℕ). (n, take new.len (items new.window))) np ∙ ap (λ (l : List ℕ). (old.passed + 1, l)) (line_is new w at m.items m.len))
      (ap (λ (t : List ℕ). t ++ xs) (pending_is new w (at + 1) m.items m.given) ∙ sym (drop-append-le (at + 1) w xs (omega arith)))
      (one_more old.passed input text (drop (at + 1) text) (first_at text at long none_in is_in) here) np m.taken m.ended h

  -- the source was read to its end, and what is here has no line end: it is the last line
  pub last : (new : LineReader) (left : Option (List ℕ)) → r.given ≡ 0 → r.passed ≡ old.passed → NoneBefore (items r.window) (length (items r.window)) → IsAtEnd left
      → Marks (items r.window) (length (items r.window)) (length (items r.window)) (r.passed + 1) r new → Reads left → Advances input old new left (Ok Here)
  last new None z p none end m h = absurd (let t = h.text in cc)
  last new (Some xs) z p none end m h =
      let w = items r.window in
      let here : w ≡ behind old.passed input = sym (append-nil w) ∙ ap (λ (t : List ℕ). w ++ t) (sym end) ∙ whole_text xs z h in
      let cut : CutsLine (behind old.passed input) w [] = subst (λ (t : List ℕ). CutsLine t w []) here (uncut w none) in
      let np : new.passed ≡ old.passed + 1 = m.passed ∙ ap (λ (n : ℕ). n + 1) p in
      gives_line new xs w [] cut
      (ap (λ (n : ℕ). (n, take new.len (items new.window))) np ∙ ap (λ (l : List ℕ). (old.passed + 1, l)) (line_is new w (length w) m.items m.len ∙ take_all (length w) w (omega arith)))
      (ap (λ (t : List ℕ). t ++ xs) (pending_is new w (length w) m.items m.given ∙ drop_all (length w) w (omega arith)) ∙ end)
      (one_more old.passed input w [] (none_first w none) here) np m.taken m.ended h

stands_at : (input : List ℕ) (old r : LineReader) (left : Option (List ℕ)) → r.passed ≡ old.passed → Reads input old r left → StandsIn input r left
stands_at input old r left p h = subst (λ (n : ℕ). Holds (behind n input) (length input) r left) (sym p) h

-- nothing is here, at the end of the source
pub at_end : (input : List ℕ) (old r : LineReader) (left : Option (List ℕ)) → r.given ≡ 0 → r.passed ≡ old.passed → items r.window ≡ [] → r.taken ≤ old.limit → IsAtEnd left → Reads input old r left
    → Advances input old r left (Ok End)
at_end input old r None z p none within end h = absurd (let t = h.text in cc)
at_end input old r (Some xs) z p none within end h =
    let here : [] ≡ behind old.passed input = sym end ∙ ap (λ (t : List ℕ). t ++ xs) (sym none) ∙ whole_text input old r xs z h in
    record {
      stands = stands_at input old r (Some xs) p h;
      here = λ x. absurd cc;
      end = λ x. (sym here, omega (arith, h.taken, ap length end, within));
      too_large = λ x. absurd cc;
    }

pub beyond : (input : List ℕ) (old r : LineReader) (left : Option (List ℕ)) → r.passed ≡ old.passed → old.limit < r.taken → Reads input old r left → Advances input old r left (Ok TooLarge)
beyond input old r None p over h = absurd (let t = h.text in cc)
beyond input old r (Some xs) p over h = record { stands = stands_at input old r (Some xs) p h; here = λ x. absurd cc; end = λ x. absurd cc; too_large = λ x. omega (arith, h.taken, over) }

pub stopped : (input : List ℕ) (old r : LineReader) (left : Option (List ℕ)) (result : Result Next ReadStop) → ((n : Next) → result ≡ Ok n → ⊥) → r.passed ≡ old.passed → Reads input old r left → Advances input old r left result
stopped input old r left result n p h = record { stands = stands_at input old r left p h; here = λ x. absurd (n Here x); end = λ x. absurd (n End x); too_large = λ x. absurd (n TooLarge x) }

-- ---- lines that are not empty

module _ (input : List ℕ) (first old new : LineReader) (left : Option (List ℕ)) (so_far : lines_behind first.passed input ≡ lines_behind old.passed input) where
  -- the line is empty
  pub passes : new.passed ≡ old.passed + 1 → new.len ≡ 0 → Advances input old new left (Ok Here) → lines_behind first.passed input ≡ lines_behind new.passed input
  passes p none a =
      so_far ∙ passed (old.passed + 1) (behind old.passed input) (current new).1 (behind new.passed input) (a.here refl) (ap (λ (n : ℕ). length (take n (items new.window))) none)
      ∙ ap (λ (n : ℕ). numbered (n + 1) (behind new.passed input)) (sym p)

  pub gives : new.passed ≡ old.passed + 1 → 0 < new.len → Advances input old new left (Ok Here) → GivesLine input first new left (Ok Here)
  gives p some a =
      let long : length (take new.len (items new.window)) ≡ new.len = length-take-le new.len (items new.window) (omega (arith, new.whole)) in
      let line : numbered (old.passed + 1) (behind old.passed input) ≡ (old.passed + 1, (current new).1) ∷ numbered (old.passed + 1 + 1) (behind new.passed input) =
      given (old.passed + 1) (behind old.passed input) (current new).1 (behind new.passed input) (a.here refl) (omega (arith, long)) in
      record {
        stands = a.stands;
        here = λ x. so_far ∙ line ∙ ap (λ (n : ℕ). (n, (current new).1) ∷ numbered (n + 1) (behind new.passed input)) (sym p);
        end = λ x. absurd cc;
        too_large = λ x. absurd cc;
      }

  pub gives_none : (result : Result Next ReadStop) → first.limit ≡ old.limit → (result ≡ Ok Here → ⊥) → Advances input old new left result → GivesLine input first new left result
  gives_none result l n a = record {
    stands = a.stands;
    here = λ x. absurd (n x);
    end = λ x. let e = a.end x in (so_far ∙ all_given (old.passed + 1) (behind old.passed input) (ap length e.0), omega (arith, e.1, l));
    too_large = λ x. omega (arith, a.too_large x, l);
  }
