-- A fault stays, however the text goes on.
use Rattle.std.proofs.Common.{◌≡◌, ℕ, zero, suc, ◌+◌, ◌<◌, ◌≤◌, Bool, true, false, cond, not, ltb, eqb, List, [], ◌∷◌, ◌++◌, length, take, drop, length-append, refl, ap, ◌∙◌, arith, inl, inr}
use Rattle.std.specs.Prelude.{Result, Ok, Err}
use Rattle.std.specs.List.{position_or_len, before_first, after_first}
use Rattle.std.proofs.lemmas.Bool.{cases_lt}
use Rattle.std.proofs.lemmas.Bool.Decides.{nat_tests}
use Rattle.std.proofs.lemmas.List.{take-append-le, drop-append-le}
use Rattle.osv_prim.specs.declared.oid.CommitRow.{CommitRow}
use Rattle.fast_export.specs.declared.fault.StreamFault.{StreamFault}
use Rattle.fast_export.specs.declared.grammar.Part.{Part}
use Rattle.fast_export.specs.Lines.{is_lf, max_line_bytes, Lined, Line, Nothing, Cut, TooLong, line_of}
use Rattle.fast_export.specs.Grammar.{Opening, may_end, repeats, parts_of, is_done}
use Rattle.fast_export.specs.Facts.{Facts, start, settled, rows_of, Answer, Took, Counts, Passed, Refused, takes, opens, with_line}
use Rattle.fast_export.specs.Stream.{Step, Next, Stop, ◌>>=◌, Bad, Whole, Short, Turn, Again, Over, turned, repeated, all, at_end, skipping, answered, on_line, turn, part, parts, behind_command, opened, on_first_line, command, outcome, stream}
use Rattle.fast_export.proofs.Turns.{Falls, AlwaysFalls, turn-falls, command-falls}
use Rattle.fast_export.proofs.Resumes.{long_enough, too_short}
use Rattle.fast_export_laws.specs.Laws.{FaultsStay}

-- ---- what a longer text says: the same, with more text behind it

module _ (more : List ℕ) where
  abbrev pub Grows : Step → Step → Type 0
  Grows (Next f at text) t = t ≡ Next f at (text ++ more)
  Grows (Stop (Bad e)) t = t ≡ Stop (Bad e)
  Grows (Stop (Whole rows)) t = Unit {0}
  Grows (Stop Short) t = Unit {0}

  abbrev pub GrowsTurn : Turn → Turn → Type 0
  GrowsTurn (Again f at text) t = t ≡ Again f at (text ++ more)
  GrowsTurn (Over (Next f at text)) t = t ≡ Over (Next f at (text ++ more))
  GrowsTurn (Over (Stop (Bad e))) t = t ≡ Over (Stop (Bad e))
  GrowsTurn (Over (Stop (Whole rows))) t = Unit {0}
  GrowsTurn (Over (Stop Short)) t = Unit {0}

  abbrev pub GrowsLine : Lined → Lined → Type 0
  GrowsLine (Line line rest) l = l ≡ Line line (rest ++ more)
  GrowsLine TooLong l = l ≡ TooLong
  GrowsLine Nothing l = Unit {0}
  GrowsLine Cut l = Unit {0}

  over : (s t : Step) → Grows s t → GrowsTurn (Over s) (Over t)
  over (Next f at text) t g = ap (λ (s : Step). Over s) g
  over (Stop (Bad e)) t g = ap (λ (s : Step). Over s) g
  over (Stop (Whole rows)) t g = tt
  over (Stop Short) t g = tt

  grows-bind : (s t : Step) (j k : Facts → ℕ → List ℕ → Step) → Grows s t → ((f : Facts) (at : ℕ) (text : List ℕ) → Grows (j f at text) (k f at (text ++ more))) → Grows (s >>= j) (t >>= k)
  grows-bind (Next f at text) t j k g h = rw g (h f at text)
  grows-bind (Stop (Bad e)) t j k g h = rw g refl
  grows-bind (Stop (Whole rows)) t j k g h = tt
  grows-bind (Stop Short) t j k g h = tt

  grows-turned : (r t : Turn) (n : ℕ) (j k : Facts → ℕ → List ℕ → Step) → Falls n r → GrowsTurn r t → ((f : Facts) (at : ℕ) (text : List ℕ) → length text < n → Grows (j f at text) (k f at (text ++ more)))
      → Grows (turned r j) (turned t k)
  grows-turned (Again f at text) t n j k lt g h = rw g (h f at text lt)
  grows-turned (Over (Next f at text)) t n j k lt g h = rw g refl
  grows-turned (Over (Stop (Bad e))) t n j k lt g h = rw g refl
  grows-turned (Over (Stop (Whole rows))) t n j k lt g h = tt
  grows-turned (Over (Stop Short)) t n j k lt g h = tt

  abbrev pub AlwaysGrows : (Facts → ℕ → List ℕ → Turn) → Type 0
  AlwaysGrows t = (f : Facts) (at : ℕ) (text : List ℕ) → GrowsTurn (t f at text) (t f at (text ++ more))

  grows-repeated : (t : Facts → ℕ → List ℕ → Turn) → AlwaysFalls t → AlwaysGrows t → (n m : ℕ) (f : Facts) (at : ℕ) (text : List ℕ) → length text + length more < m → Grows (repeated t n f at text) (repeated t m f at (text ++ more))
  unfolding repeated
  grows-repeated t falls h zero m f at text lt = tt
  grows-repeated t falls h (suc n) zero f at text lt = absurd (omega arith)
  grows-repeated t falls h (suc n) (suc m) f at text lt =
      grows-turned (t f at text) (t f at (text ++ more)) (length text) (repeated t n) (repeated t m) (falls f at text) (h f at text)
      (λ g offset rest shorter. grows-repeated t falls h n m g offset rest (omega arith))

  grows-all : (t : Facts → ℕ → List ℕ → Turn) → AlwaysFalls t → AlwaysGrows t → (f : Facts) (at : ℕ) (text : List ℕ) → Grows (all t f at text) (all t f at (text ++ more))
  unfolding all
  grows-all t falls h f at text = grows-repeated t falls h (suc (length text)) (suc (length (text ++ more))) f at text (omega (arith, length-append text more))

  -- ---- lines

  abbrev cut : ℕ → ℕ → List ℕ → List ℕ → Lined
  cut p n before after = cond (ltb max_line_bytes p) TooLong (cond (ltb p n) (Line before after) (cond (eqb n 0) Nothing Cut))

  grows-cut : (p n q m : ℕ) (before after new_before new_after : List ℕ) → p ≤ q → (p < n → (q ≡ p) × (p < m) × (new_before ≡ before) × (new_after ≡ after ++ more))
      → GrowsLine (cut p n before after) (cut q m new_before new_after)
  grows-cut p n q m before after new_before new_after le same =
      elim (cases_lt max_line_bytes p) [
        | inl long ↦
            let a : ltb max_line_bytes p ≡ true = grind (arith, nat_tests) in
            let b : ltb max_line_bytes q ≡ true = grind (arith, nat_tests) in
            rw (a, b) refl
        | inr short ↦
            let a : ltb max_line_bytes p ≡ false = grind (arith, nat_tests) in
            elim (cases_lt p n) [
              | inl lt ↦
                  let s = same lt in
                  let b : ltb p n ≡ true = grind (arith, nat_tests) in
                  let c : ltb p m ≡ true = grind (arith, nat_tests, s.1) in
                  rw (s.0, a, b, c, s.2, s.3) refl
              | inr none ↦
                  let b : ltb p n ≡ false = grind (arith, nat_tests) in
                  rw (a, b) (either (eqb n 0) (cut q m new_before new_after))
            ]
      ]
    where
      either : (b : Bool) (l : Lined) → GrowsLine (cond b Nothing Cut) l
      either true l = tt
      either false l = tt

-- the first LF of a longer text
first-later : (xs ys : List ℕ) → position_or_len is_lf xs ≤ position_or_len is_lf (xs ++ ys)
first-later [] ys = omega arith
first-later (x ∷ xs) ys = one (is_lf x) _ _ (first-later xs ys)
  where
    one : (b : Bool) (m n : ℕ) → m ≤ n → cond (not b) (1 + m) 0 ≤ cond (not b) (1 + n) 0
    one true m n h = omega arith
    one false m n h = omega arith

first-same : (xs ys : List ℕ) → position_or_len is_lf xs < length xs → position_or_len is_lf (xs ++ ys) ≡ position_or_len is_lf xs
first-same [] ys lt = absurd (omega arith)
first-same (x ∷ xs) ys lt = one (is_lf x) _ _ (length xs) lt (first-same xs ys)
  where
    one : (b : Bool) (m n k : ℕ) → cond (not b) (1 + m) 0 < suc k → (m < k → n ≡ m) → cond (not b) (1 + n) 0 ≡ cond (not b) (1 + m) 0
    one true m n k lt h = refl
    one false m n k lt h = omega (arith, h (omega arith))

grows-line : (more text : List ℕ) → GrowsLine more (line_of text) (line_of (text ++ more))
unfolding line_of
grows-line more text =
    let p = position_or_len is_lf text in
    grows-cut more p (length text) (position_or_len is_lf (text ++ more)) (length (text ++ more)) (before_first is_lf text) (after_first is_lf text)
    (before_first is_lf (text ++ more)) (after_first is_lf (text ++ more)) (first-later text more)
    (λ lt. (
      first-same text more lt,
      omega (arith, length-append text more),
      ap (λ (n : ℕ). take n (text ++ more)) (first-same text more lt) ∙ take-append-le _ text more (omega arith),
      ap (λ (n : ℕ). drop (n + 1) (text ++ more)) (first-same text more lt) ∙ drop-append-le _ text more (omega arith),
    ))

-- ---- parts and commands

grows-skipping : (more : List ℕ) (n : ℕ) (f : Facts) (at : ℕ) (text : List ℕ) → Grows more (skipping n f at text) (skipping n f at (text ++ more))
grows-skipping more n f at text =
    elim (cases_lt (length text) n) [
      | inl lt ↦ rw (too_short n f at text lt) tt
      | inr le ↦
          rw (long_enough n f at text le) (long_enough n f at (text ++ more) (omega (arith, length-append text more)) ∙ ap (λ (t : List ℕ). Next f (at + n) t) (drop-append-le n text more le))
    ]

grows-answered : (more : List ℕ) (a : Answer) (f : Facts) (at offset : ℕ) (rest text : List ℕ) → GrowsTurn more (answered a f offset rest (Next f at text)) (answered a f offset (rest ++ more) (Next f at (text ++ more)))
grows-answered more (Took g) f at offset rest text = refl
grows-answered more (Counts n) f at offset rest text = over more (skipping n f offset rest) (skipping n f offset (rest ++ more)) (grows-skipping more n f offset rest)
grows-answered more Passed f at offset rest text = refl
grows-answered more (Refused e) f at offset rest text = refl

promised : (more : List ℕ) (p : Bool) (rows : List CommitRow) (t : Turn) → GrowsTurn more (Over (Stop (cond (not p) (Whole rows) Short))) t
promised more true rows t = tt
promised more false rows t = tt

ended : (more : List ℕ) (b : Bool) (f : Facts) (t : Turn) → GrowsTurn more (Over (Stop (at_end b f))) t
ended more true f t = promised more f.promised (rows_of f) t
ended more false f t = tt

grows-on_line : (more : List ℕ) (p : Part) (f : Facts) (at : ℕ) (text : List ℕ) (l k : Lined) → GrowsLine more l k → GrowsTurn more (on_line p f at text l) (on_line p f at (text ++ more) k)
grows-on_line more p f at text (Line line rest) k g = rw g (grows-answered more (takes p f at line) f at (at + (length line + 1)) rest text)
grows-on_line more p f at text TooLong k g = rw g refl
grows-on_line more p f at text Cut k g = tt
grows-on_line more p f at text Nothing k g = ended more (may_end p) f (on_line p f at (text ++ more) k)

grows-turn : (more : List ℕ) (p : Part) → AlwaysGrows more (turn p)
grows-turn more p f at text = grows-on_line more p f at text (line_of text) (line_of (text ++ more)) (grows-line more text)

choose : (more : List ℕ) (b : Bool) (s t u v : Step) → Grows more s u → Grows more t v → Grows more (cond b s t) (cond b u v)
choose more true s t u v g h = g
choose more false s t u v g h = h

grows-part : (more : List ℕ) (p : Part) (f : Facts) (at : ℕ) (text : List ℕ) → Grows more (part p f at text) (part p f at (text ++ more))
unfolding part
grows-part more p f at text =
    choose more (repeats p) (all (turn p) f at text) (turned (turn p f at text) Next) (all (turn p) f at (text ++ more)) (turned (turn p f at (text ++ more)) Next)
    (grows-all more (turn p) (turn-falls p) (grows-turn more p) f at text)
    (grows-turned more (turn p f at text) (turn p f at (text ++ more)) (length text) Next Next (turn-falls p f at text) (grows-turn more p f at text) (λ g offset rest lt. refl))

grows-parts : (more : List ℕ) (ps : List Part) (f : Facts) (at : ℕ) (text : List ℕ) → Grows more (parts ps f at text) (parts ps f at (text ++ more))
unfolding parts
grows-parts more [] f at text = refl
grows-parts more (p ∷ ps) f at text = grows-bind more (part p f at text) (part p f at (text ++ more)) (parts ps) (parts ps) (grows-part more p f at text) (grows-parts more ps)

grows-behind : (more : List ℕ) (s t : Step) → Grows more s t → GrowsTurn more (behind_command s) (behind_command t)
grows-behind more (Next f at text) t g = rw g refl
grows-behind more (Stop (Bad e)) t g = rw g refl
grows-behind more (Stop (Whole rows)) t g = tt
grows-behind more (Stop Short) t g = tt

done_or : (more : List ℕ) (b : Bool) (rows : List CommitRow) (s t : Turn) → GrowsTurn more s t → GrowsTurn more (cond b (Over (Stop (Whole rows))) s) (cond b (Over (Stop (Whole rows))) t)
done_or more true rows s t g = tt
done_or more false rows s t g = g

grows-opened : (more : List ℕ) (r : Result Opening StreamFault) (f : Facts) (at : ℕ) (rest : List ℕ) → GrowsTurn more (opened r f at rest) (opened r f at (rest ++ more))
grows-opened more (Err e) f at rest = refl
grows-opened more (Ok c) f at rest = done_or more (is_done c) f.rows (behind_command (parts (parts_of c) (with_line c f) at rest)) (behind_command (parts (parts_of c) (with_line c f) at (rest ++ more)))
    (grows-behind more (parts (parts_of c) (with_line c f) at rest) (parts (parts_of c) (with_line c f) at (rest ++ more)) (grows-parts more (parts_of c) (with_line c f) at rest))

grows-first : (more : List ℕ) (most : ℕ) (f : Facts) (at : ℕ) (l k : Lined) → GrowsLine more l k → GrowsTurn more (on_first_line most f at l) (on_first_line most f at k)
grows-first more most f at (Line line rest) k g = rw g (grows-opened more (opens most (length (rows_of f)) at line) (settled f) (at + (length line + 1)) rest)
grows-first more most f at TooLong k g = rw g refl
grows-first more most f at Cut k g = tt
grows-first more most f at Nothing k g = ended more true f (on_first_line most f at k)

grows-command : (more : List ℕ) (most : ℕ) → AlwaysGrows more (command most)
unfolding command
grows-command more most f at text = grows-first more most f at (line_of text) (line_of (text ++ more)) (grows-line more text)

is_bad : (more : List ℕ) (s t : Step) (e : StreamFault) → Grows more s t → outcome s ≡ Bad e → outcome t ≡ Bad e
is_bad more (Next f at text) t e g h = absurd cc
is_bad more (Stop (Bad d)) t e g h = rw g h
is_bad more (Stop (Whole rows)) t e g h = absurd cc
is_bad more (Stop Short) t e g h = absurd cc

pub stays : FaultsStay
unfolding stream
stays text more most e h = is_bad more (all (command most) start 0 text) (all (command most) start 0 (text ++ more)) e (grows-all more (command most) (command-falls most) (grows-command more most) start 0 text) h
