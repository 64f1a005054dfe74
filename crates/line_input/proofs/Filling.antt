-- What a read comes to.
use Rattle.std.proofs.Common.{◌≡◌, ℕ, ◌+◌, ◌<◌, ◌≤◌, true, List, [], ◌++◌, length, take, drop, get_or, Option, Some, None, Result, Ok, Err, refl, sym, ap, subst, ◌∙◌, arith, length-append}
use Rattle.std.specs.Prelude.{◌==◌, IsErr}
use Rattle.std.specs.Io.KnownBytes.{IsAtEnd, Keeps}
use Rattle.std.proofs.lemmas.List.{append-nil, drop_all, get_or_append_left, length-drop, length-take, take_all}
use Rattle.line_input.specs.Lines.{NoneBefore}
use Rattle.line_input.specs.Reader.{Advances, Fills, GivesPiece, Holds, Marks, given_count, pending}
use Rattle.line_input.specs.Window.{items}
use Rattle.line_input.specs.declared.stop.ReadStop.{ReadStop}
use Rattle.line_input.specs.declared.reader.LineReader.{LineReader}
use Rattle.line_input.specs.declared.reader.Next.{Next}
use Rattle.line_input.specs.declared.reader.Next.TheVariants.{Here, End, TooLarge}
use Rattle.line_input.proofs.Standing.{Reads, at_end, consumes_none, last, some_is}

pub fills_none : (old new : LineReader) (lo ln : Option (List ℕ)) (result : Result Next ReadStop) → items new.window ≡ items old.window → new.taken ≡ old.taken → Keeps lo ln
    → (new.len ≡ old.len) × (new.given ≡ old.given) × (new.passed ≡ old.passed) × (new.limit ≡ old.limit)
    → (result ≡ Ok Here → ⊥) → (result ≡ Ok End → new.taken ≤ new.limit) → (result ≡ Ok TooLarge → new.limit < new.taken) → Fills old new lo ln result
fills_none old new lo ln result i t k s here end over = record {
  more = [];
  items = i ∙ sym (append-nil (items old.window));
  taken = omega (arith, t);
  consumed = consumes_none lo ln k;
  same = s;
  here = λ x. absurd (here x);
  end = λ x. (omega arith, end x);
  too_large = over;
}

pub not_ok : (r : Result Next ReadStop) (n : Next) → IsErr r → r ≡ Ok n → ⊥
not_ok (Ok m) n i e = absurd cc
not_ok (Err s) n i e = absurd cc

-- where the read failed
pub fills_err : (old new : LineReader) (lo ln : Option (List ℕ)) (result : Result Next ReadStop) → IsErr result → items new.window ≡ items old.window → new.taken ≡ old.taken → Keeps lo ln
    → (new.len ≡ old.len) × (new.given ≡ old.given) × (new.passed ≡ old.passed) × (new.limit ≡ old.limit) → Fills old new lo ln result
fills_err old new lo ln result e i t k s =
    fills_none old new lo ln result i t k s (not_ok result Here e) (λ x. absurd (not_ok result End e x)) (λ x. absurd (not_ok result TooLarge e x))

-- ---- what the reader gives then

module _ (input : List ℕ) (old r : LineReader) (left : Option (List ℕ)) where
  -- the source came to its end: what is here is the last line, or there is none
  pub last_or_end : (new : LineReader) (result : Next) → r.given ≡ 0 → r.passed ≡ old.passed → NoneBefore (items r.window) (length (items r.window)) → r.taken ≤ old.limit → IsAtEnd left → Reads input old r left
      → (result ≡ Here → Marks (items r.window) (length (items r.window)) (length (items r.window)) (r.passed + 1) r new × (0 < length (items r.window)))
      → (result ≡ End → (new ≡ r) × (items r.window ≡ [])) → (result ≡ TooLarge → ⊥) → Advances input old new left (Ok result)
  last_or_end new Here z p none within end h here ended over = last input old r new left z p none end (here refl).0 h
  last_or_end new End z p none within end h here ended over =
      let e = ended refl in subst (λ (n : LineReader). Advances input old n left (Ok End)) (sym e.0) (at_end input old r left z p e.1 within end h)
  last_or_end new TooLarge z p none within end h here ended over = absurd (over refl)

-- bytes that have no line end, and more bytes behind them
pub none_grows : (text here xs more : List ℕ) → text ≡ xs → here ≡ xs ++ more → NoneBefore text (length text) → NoneBefore here (length text)
none_grows text here xs more t e none = λ k low below is.
    none k low below (subst (λ (x : ℕ). (x == 10) ≡ true) (ap (λ (h : List ℕ). get_or h k 0) (e ∙ ap (λ (h : List ℕ). h ++ more) (sym t)) ∙ get_or_append_left text more 0 k below) is)

pub none_same : (text here xs more : List ℕ) → text ≡ xs → here ≡ xs ++ more → length more ≡ 0 → NoneBefore text (length text) → NoneBefore here (length here)
none_same text here xs more t e none_more none =
    subst (λ (n : ℕ). NoneBefore here n) (omega (arith, ap length e, length-append xs more, none_more, ap length t)) (none_grows text here xs more t e none)

-- a piece: all that is here
pub piece_given : (rest : List ℕ) (total : ℕ) (old r new : LineReader) (left : Option (List ℕ)) → r.given ≡ 0
    → Marks (items r.window) (length (items r.window)) (length (items r.window)) r.passed r new → Holds rest total r left → GivesPiece rest total old new left (Ok Here)
piece_given rest total old r new None z m h = absurd (let t = h.text in cc)
piece_given rest total old r new (Some xs) z m h =
    let w = items r.window in
    let here : w ++ xs ≡ rest = ap (λ (n : ℕ). drop n w ++ xs) (sym z) ∙ some_is _ _ h.text in
    let line : take new.len (items new.window) ≡ w = ap (λ (n : ℕ). take n (items new.window)) m.len ∙ ap (take (length w)) m.items ∙ take_all (length w) w (omega arith) in
    let none : pending new ≡ [] = ap (λ (n : ℕ). drop n (items new.window)) m.given ∙ ap (drop (length w)) m.items ∙ drop_all (length w) w (omega arith) in
    record {
      here = λ x. (xs, sym here ∙ ap (λ (l : List ℕ). l ++ xs) (sym line), record { text = ap (λ (l : List ℕ). Some (l ++ xs)) none; taken = ap (λ (n : ℕ). n + length xs) m.taken ∙ h.taken; end = λ x. h.end (sym m.ended ∙ x) });
      kept = λ n. absurd (n refl);
      end = λ x. absurd cc;
      too_large = λ x. absurd cc;
    }

-- ---- how many bytes were given

pub count_settled : (old new : LineReader) → Marks (pending old) 0 0 old.passed old new → given_count new ≡ given_count old
count_settled old new m =
    omega (arith, m.taken, m.given, ap length m.items, length-drop new.given (items new.window))

pub count_filled : (old new : LineReader) (lo ln : Option (List ℕ)) (result : Result Next ReadStop) → old.given ≡ 0 → Fills old new lo ln result → given_count new ≡ given_count old
count_filled old new lo ln result z f =
    omega (arith, z, f.taken, f.same.1, ap length f.items, length-append (items old.window) f.more, length-drop old.given (items old.window), length-drop new.given (items new.window))

-- all that is here is given
pub count_given : (r new : LineReader) → r.given ≡ 0 → Marks (items r.window) (length (items r.window)) (length (items r.window)) r.passed r new
    → given_count r + length (take new.len (items new.window)) ≤ given_count new
count_given r new z m =
    omega (arith, z, r.counted, m.taken, m.len, m.given, ap length m.items, length-take new.len (items new.window), length-drop r.given (items r.window), length-drop new.given (items new.window))
