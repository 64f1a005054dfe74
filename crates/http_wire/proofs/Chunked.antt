-- Chunks, step by step.
use Rattle.std.proofs.Common.{◌≡◌, ℕ, suc, zero, ◌+◌, ◌-◌, ◌<◌, ◌≤◌, Bool, true, false, cond, ltb, eqb, List, [], ◌++◌, length, take, drop, Option, Some, None, length-append, append_assoc, refl, sym, ap, ◌∙◌, arith}
use Rattle.std.specs.List.{position_or_len, before_first, after_first}
use Rattle.std.proofs.lemmas.List.{length-drop}
use Rattle.std.proofs.lemmas.Bool.Decides.{nat_tests}
use Rattle.http_wire.specs.declared.fault.WireFault.TheVariants as faults
use Rattle.http_wire.specs.Bytes.{is_lf, begins_crlf, Lined, Line, TooLong, Cut, line_of}
use Rattle.http_wire.specs.Chunks.{Body, Whole, Bad, Short, behind, most_line, most_trailers, chunk_size, trailers, chunk, on_size, on_chunk_line, chunks}
use Rattle.http_wire.specs.Parts.{chunks_from}
use Rattle.http_wire.proofs.Texts.{take-longer}
use Rattle.http_wire.proofs.Sized.{drop-longer}

-- ---- more turns than bytes change nothing

chunk-same : (f g : List ℕ → Body) (size : ℕ) (text : List ℕ) → ((t : List ℕ) → length t ≤ length text → f t ≡ g t) → chunk f size text ≡ chunk g size text
unfolding chunk
chunk-same f g size text h =
    ap (λ (r : Body). cond (ltb (length text) (size + 2)) Short (cond (begins_crlf (drop size text)) (behind (take size text) r) (Bad faults.BadChunk)))
    (h (drop (size + 2) text) (omega (arith, length-drop (size + 2) text)))

size-same : (f g : ℕ → List ℕ → Body) (limit sum : ℕ) (rest : List ℕ) (o : Option ℕ) → ((s : ℕ) (t : List ℕ) → length t ≤ length rest → f s t ≡ g s t) → on_size f limit sum rest o ≡ on_size g limit sum rest o
size-same f g limit sum rest None h = refl
size-same f g limit sum rest (Some size) h =
    ap (λ (r : Body). cond (eqb size 0) (trailers (suc (length rest)) most_trailers rest) (cond (ltb limit (sum + size)) (Bad (faults.BodyTooLarge limit)) r))
    (chunk-same (f (sum + size)) (g (sum + size)) size rest (h (sum + size)))

pub shorter : (most : ℕ) (text line rest : List ℕ) → line_of most text ≡ Line line rest → length rest < length text
unfolding line_of
shorter most text line rest e = cases (ltb (position_or_len is_lf text) most) (ltb (position_or_len is_lf text) (length text)) (ltb most (length text)) refl e
  where
    rest-of : Lined → List ℕ
    rest-of (Line line rest) = rest
    rest-of TooLong = []
    rest-of Cut = []

    is-line : Lined → Bool
    is-line (Line line rest) = true
    is-line TooLong = false
    is-line Cut = false

    cases : (a b d : Bool) → ltb (position_or_len is_lf text) (length text) ≡ b → cond a (cond b (Line (before_first is_lf text) (after_first is_lf text)) Cut) (cond d TooLong Cut) ≡ Line line rest → length rest < length text
    cases true true d t e =
        let lt : position_or_len is_lf text < length text = grind (arith, nat_tests) in
        omega (arith, ap (λ (l : Lined). length (rest-of l)) e, length-drop (position_or_len is_lf text + 1) text)
    cases true false d t e = absurd (clash (ap is-line e))
      where
        clash : false ≡ true → ⊥
        clash p = absurd cc
    cases false b true t e = absurd (clash (ap is-line e))
      where
        clash : false ≡ true → ⊥
        clash p = absurd cc
    cases false b false t e = absurd (clash (ap is-line e))
      where
        clash : false ≡ true → ⊥
        clash p = absurd cc

line-same : (f g : ℕ → List ℕ → Body) (limit sum : ℕ) (text : List ℕ) (o : Lined) → ((line rest : List ℕ) → o ≡ Line line rest → length rest < length text)
    → ((s : ℕ) (t : List ℕ) → length t < length text → f s t ≡ g s t) → on_chunk_line f limit sum o ≡ on_chunk_line g limit sum o
line-same f g limit sum text Cut s h = refl
line-same f g limit sum text TooLong s h = refl
line-same f g limit sum text (Line line rest) s h =
    let lt = s line rest refl in
    size-same f g limit sum rest (chunk_size line) (λ n t le. h n t (omega arith))

turns-same : (n m limit sum : ℕ) (text : List ℕ) → length text < n → length text < m → chunks n limit sum text ≡ chunks m limit sum text
unfolding chunks
turns-same zero m limit sum text a b = absurd (omega arith)
turns-same (suc n) zero limit sum text a b = absurd (omega arith)
turns-same (suc n) (suc m) limit sum text a b =
    line-same (chunks n limit) (chunks m limit) limit sum text (line_of most_line text) (shorter most_line text)
    (λ s t lt. turns-same n m limit s t (omega arith) (omega arith))

-- ---- what a chunk line does

chunks-step : (limit sum : ℕ) (text : List ℕ) → chunks_from limit sum text ≡ on_chunk_line (chunks (length text) limit) limit sum (line_of most_line text)
unfolding chunks
chunks-step limit sum text = refl

pub chunk-line : (limit sum : ℕ) (text line rest : List ℕ) → line_of most_line text ≡ Line line rest → chunks_from limit sum text ≡ on_size (chunks_from limit) limit sum rest (chunk_size line)
chunk-line limit sum text line rest e =
    let lt = shorter most_line text line rest e in
    chunks-step limit sum text ∙ ap (on_chunk_line (chunks (length text) limit) limit sum) e
    ∙ size-same (chunks (length text) limit) (chunks_from limit) limit sum rest (chunk_size line) (λ s t le. turns-same (length text) (suc (length t)) limit s t (omega arith) (omega arith))

pub chunk-line-long : (limit sum : ℕ) (text : List ℕ) → line_of most_line text ≡ TooLong → chunks_from limit sum text ≡ Bad faults.BadChunk
chunk-line-long limit sum text e = chunks-step limit sum text ∙ ap (on_chunk_line (chunks (length text) limit) limit sum) e

pub chunk-line-cut : (limit sum : ℕ) (text : List ℕ) → line_of most_line text ≡ Cut → chunks_from limit sum text ≡ Short
chunk-line-cut limit sum text e = chunks-step limit sum text ∙ ap (on_chunk_line (chunks (length text) limit) limit sum) e

-- ---- the bytes of a chunk

pub behind-behind : (xs ys : List ℕ) (b : Body) → behind (xs ++ ys) b ≡ behind xs (behind ys b)
behind-behind xs ys (Whole bytes rest) = ap (λ (l : List ℕ). Whole l rest) (append_assoc xs ys bytes)
behind-behind xs ys (Bad e) = refl
behind-behind xs ys Short = refl

pub chunk-part : (f : List ℕ → Body) (n k : ℕ) (bytes rest : List ℕ) → length bytes ≡ k → k ≤ n → chunk f n (bytes ++ rest) ≡ behind bytes (chunk f (n - k) rest)
unfolding chunk
chunk-part f n k bytes rest len le =
    let a : n - length bytes ≡ n - k = omega arith in
    let b : (n + 2) - length bytes ≡ (n - k) + 2 = omega arith in
    let d : drop n (bytes ++ rest) ≡ drop (n - k) rest = drop-longer n bytes rest (omega arith) ∙ ap (λ j. drop j rest) a in
    let e : drop (n + 2) (bytes ++ rest) ≡ drop ((n - k) + 2) rest = drop-longer (n + 2) bytes rest (omega arith) ∙ ap (λ j. drop j rest) b in
    let t : take n (bytes ++ rest) ≡ bytes ++ take (n - k) rest = take-longer n bytes rest (omega arith) ∙ ap (λ j. bytes ++ take j rest) a in
    (λ i. cond (tests (ltb (length rest) ((n - k) + 2)) refl i) Short (cond (begins_crlf (d i)) (behind (t i) (f (e i))) (Bad faults.BadChunk)))
    ∙ inside (ltb (length rest) ((n - k) + 2)) (begins_crlf (drop (n - k) rest))
  where
    tests : (b : Bool) → ltb (length rest) ((n - k) + 2) ≡ b → ltb (length (bytes ++ rest)) (n + 2) ≡ ltb (length rest) ((n - k) + 2)
    tests true e =
        let lt : length rest < (n - k) + 2 = grind (arith, nat_tests) in
        let l : length (bytes ++ rest) < n + 2 = omega (arith, length-append bytes rest) in
        let t : ltb (length (bytes ++ rest)) (n + 2) ≡ true = grind (arith, nat_tests) in
        t ∙ sym e
    tests false e =
        let ge : (n - k) + 2 ≤ length rest = grind (arith, nat_tests) in
        let l : n + 2 ≤ length (bytes ++ rest) = omega (arith, length-append bytes rest) in
        let t : ltb (length (bytes ++ rest)) (n + 2) ≡ false = grind (arith, nat_tests) in
        t ∙ sym e

    inside : (a b : Bool) → cond a Short (cond b (behind (bytes ++ take (n - k) rest) (f (drop ((n - k) + 2) rest))) (Bad faults.BadChunk))
        ≡ behind bytes (cond a Short (cond b (behind (take (n - k) rest) (f (drop ((n - k) + 2) rest))) (Bad faults.BadChunk)))
    inside true b = refl
    inside false true = behind-behind bytes (take (n - k) rest) (f (drop ((n - k) + 2) rest))
    inside false false = refl

-- ---- the CR LF behind them

chunk-end : (f : List ℕ → Body) (text : List ℕ) → chunk f 0 text ≡ cond (ltb (length text) 2) Short (cond (begins_crlf text) (behind [] (f (drop 2 text))) (Bad faults.BadChunk))
unfolding chunk
chunk-end f text = refl

pub behind-none : (b : Body) → behind [] b ≡ b
behind-none (Whole bytes rest) = refl
behind-none (Bad e) = refl
behind-none Short = refl

pub chunk-closes : (f : List ℕ → Body) (text : List ℕ) → 2 ≤ length text → begins_crlf text ≡ true → chunk f 0 text ≡ f (drop 2 text)
chunk-closes f text le e =
    let t : ltb (length text) 2 ≡ false = grind (arith, nat_tests) in
    chunk-end f text ∙ rw (t, e) (behind-none (f (drop 2 text)))

pub chunk-bad : (f : List ℕ → Body) (text : List ℕ) → 2 ≤ length text → begins_crlf text ≡ false → chunk f 0 text ≡ Bad faults.BadChunk
chunk-bad f text le e =
    let t : ltb (length text) 2 ≡ false = grind (arith, nat_tests) in
    chunk-end f text ∙ rw (t, e) refl

pub chunk-short : (f : List ℕ → Body) (n : ℕ) (text : List ℕ) → length text < n + 2 → chunk f n text ≡ Short
unfolding chunk
chunk-short f n text lt =
    let t : ltb (length text) (n + 2) ≡ true = grind (arith, nat_tests) in
    rw t refl
