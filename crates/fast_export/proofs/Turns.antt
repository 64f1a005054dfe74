-- Repetitions: each turn shortens the text, so one bound on their number is as good as another.
use Rattle.std.proofs.Common.{◌≡◌, ℕ, zero, suc, ◌+◌, ◌<◌, ◌≤◌, Bool, true, false, cond, ltb, eqb, List, [], ◌∷◌, length, drop, length-drop, refl, ◌∙◌, arith}
use Rattle.std.specs.Prelude.{Result, Ok, Err}
use Rattle.std.specs.List.{position_or_len, before_first, after_first}
use Rattle.std.proofs.lemmas.Bool.Decides.{nat_tests}
use Rattle.fast_export.specs.declared.fault.StreamFault.{StreamFault}
use Rattle.fast_export.specs.declared.grammar.Part.{Part}
use Rattle.fast_export.specs.declared.grammar.Command.{Command}
use Rattle.fast_export.specs.Lines.{is_lf, max_line_bytes, Lined, Line, Nothing, Cut, TooLong, line_of}
use Rattle.fast_export.specs.Grammar.{repeats, parts_of, is_done}
use Rattle.fast_export.specs.Facts.{Facts, settled, rows_of, Answer, Took, Counts, Passed, Refused, takes, opens, with_line}
use Rattle.fast_export.specs.Stream.{Step, Next, Stop, ◌>>=◌, Whole, Short, Turn, Again, Over, turned, repeated, all, skipping, answered, on_line, turn, part, parts, behind_command, opened, on_first_line, command}

-- ---- what is left is no longer, and behind a turn shorter

abbrev pub Within : ℕ → Step → Type 0
Within n (Next f at text) = length text ≤ n
Within n (Stop o) = Unit {0}

abbrev pub Falls : ℕ → Turn → Type 0
Falls n (Again f at text) = length text < n
Falls n (Over s) = Within n s

abbrev pub AlwaysFalls : (Facts → ℕ → List ℕ → Turn) → Type 0
AlwaysFalls t = (f : Facts) (at : ℕ) (text : List ℕ) → Falls (length text) (t f at text)

weaker : (n m : ℕ) (s : Step) → n ≤ m → Within n s → Within m s
weaker n m (Next f at text) le w = omega arith
weaker n m (Stop o) le w = tt

within-bind : (n : ℕ) (s : Step) (k : Facts → ℕ → List ℕ → Step) → Within n s → ((f : Facts) (at : ℕ) (text : List ℕ) → Within (length text) (k f at text)) → Within n (s >>= k)
within-bind n (Next f at text) k w h = weaker (length text) n (k f at text) w (h f at text)
within-bind n (Stop o) k w h = tt

-- ---- repetitions

enough-step : (t : Facts → ℕ → List ℕ → Turn) (n m k : ℕ) (r : Turn) → Falls k r → k ≤ n → k ≤ m
    → ((f : Facts) (at : ℕ) (text : List ℕ) → length text < n → length text < m → repeated t n f at text ≡ repeated t m f at text)
    → turned r (repeated t n) ≡ turned r (repeated t m)
enough-step t n m k (Again f at text) falls a b same = same f at text (omega arith) (omega arith)
enough-step t n m k (Over s) falls a b same = refl

pub enough : (t : Facts → ℕ → List ℕ → Turn) → AlwaysFalls t → (n m : ℕ) (f : Facts) (at : ℕ) (text : List ℕ) → length text < n → length text < m → repeated t n f at text ≡ repeated t m f at text
unfolding repeated
enough t h zero m f at text a b = absurd (omega arith)
enough t h (suc n) zero f at text a b = absurd (omega arith)
enough t h (suc n) (suc m) f at text a b =
    enough-step t n m (length text) (t f at text) (h f at text) (omega arith) (omega arith) (enough t h n m)

turned-all : (t : Facts → ℕ → List ℕ → Turn) → AlwaysFalls t → (n : ℕ) (r : Turn) → Falls n r → turned r (repeated t n) ≡ turned r (all t)
unfolding all
turned-all t h n (Again f at text) falls = enough t h n (suc (length text)) f at text falls (omega arith)
turned-all t h n (Over s) falls = refl

first-turn : (t : Facts → ℕ → List ℕ → Turn) (f : Facts) (at : ℕ) (text : List ℕ) → all t f at text ≡ turned (t f at text) (repeated t (length text))
unfolding all repeated
first-turn t f at text = refl

-- a repetition is a turn, and then the repetition
pub all-turn : (t : Facts → ℕ → List ℕ → Turn) → AlwaysFalls t → (f : Facts) (at : ℕ) (text : List ℕ) → all t f at text ≡ turned (t f at text) (all t)
all-turn t h f at text = first-turn t f at text ∙ turned-all t h (length text) (t f at text) (h f at text)

turned-within : (n : ℕ) (r : Turn) (k : Facts → ℕ → List ℕ → Step) → Falls n r → ((f : Facts) (at : ℕ) (text : List ℕ) → Within (length text) (k f at text)) → Within n (turned r k)
turned-within n (Again f at text) k falls h = weaker (length text) n (k f at text) (omega arith) (h f at text)
turned-within n (Over s) k falls h = falls

repeated-within : (t : Facts → ℕ → List ℕ → Turn) → AlwaysFalls t → (n : ℕ) (f : Facts) (at : ℕ) (text : List ℕ) → Within (length text) (repeated t n f at text)
unfolding repeated
repeated-within t h zero f at text = tt
repeated-within t h (suc n) f at text = turned-within (length text) (t f at text) (repeated t n) (h f at text) (repeated-within t h n)

all-within : (t : Facts → ℕ → List ℕ → Turn) → AlwaysFalls t → (f : Facts) (at : ℕ) (text : List ℕ) → Within (length text) (all t f at text)
unfolding all
all-within t h f at text = repeated-within t h (suc (length text)) f at text

-- ---- a line shortens the text

abbrev Shortens : ℕ → Lined → Type 0
Shortens n (Line line more) = length more < n
Shortens n Nothing = Unit {0}
Shortens n Cut = Unit {0}
Shortens n TooLong = Unit {0}

shortens : (n : ℕ) (long some none : Bool) (line more : List ℕ) → (some ≡ true → length more < n) → Shortens n (cond long TooLong (cond some (Line line more) (cond none Nothing Cut)))
shortens n true some none line more h = tt
shortens n false true none line more h = h refl
shortens n false false true line more h = tt
shortens n false false false line more h = tt

behind_lf : (p n : ℕ) (text : List ℕ) → ltb p n ≡ true → n ≡ length text → length (drop (p + 1) text) < n
behind_lf p n text e len = let lt : p < n = grind (arith, nat_tests) in omega (arith, length-drop (p + 1) text)

line-shortens : (text : List ℕ) → Shortens (length text) (line_of text)
unfolding line_of
line-shortens text =
    shortens (length text) (ltb max_line_bytes (position_or_len is_lf text)) (ltb (position_or_len is_lf text) (length text)) (eqb (length text) 0)
    (before_first is_lf text) (after_first is_lf text) (λ e. behind_lf (position_or_len is_lf text) (length text) text e refl)

-- ---- parts and commands

long-enough : (b : Bool) (f : Facts) (at : ℕ) (text : List ℕ) (n : ℕ) → length text ≤ n → Within n (cond b (Stop Short) (Next f at text))
long-enough true f at text n le = tt
long-enough false f at text n le = le

skipping-within : (n : ℕ) (f : Facts) (at : ℕ) (text : List ℕ) → Within (length text) (skipping n f at text)
unfolding skipping
skipping-within n f at text = long-enough (ltb (length text) n) f (at + n) (drop n text) (length text) (omega (arith, length-drop n text))

answered-falls : (n : ℕ) (a : Answer) (f : Facts) (at : ℕ) (more : List ℕ) (back : Step) → length more < n → Within n back → Falls n (answered a f at more back)
answered-falls n (Took g) f at more back lt w = lt
answered-falls n (Counts k) f at more back lt w = weaker (length more) n (skipping k f at more) (omega arith) (skipping-within k f at more)
answered-falls n Passed f at more back lt w = w
answered-falls n (Refused e) f at more back lt w = tt

on_line-falls : (p : Part) (f : Facts) (at : ℕ) (text : List ℕ) (l : Lined) → Shortens (length text) l → Falls (length text) (on_line p f at text l)
on_line-falls p f at text (Line line more) s = answered-falls (length text) (takes p f at line) f (at + (length line + 1)) more (Next f at text) s (omega arith)
on_line-falls p f at text Nothing s = tt
on_line-falls p f at text Cut s = tt
on_line-falls p f at text TooLong s = tt

pub turn-falls : (p : Part) → AlwaysFalls (turn p)
turn-falls p f at text = on_line-falls p f at text (line_of text) (line-shortens text)

chosen : (n : ℕ) (b : Bool) (s t : Step) → Within n s → Within n t → Within n (cond b s t)
chosen n true s t v w = v
chosen n false s t v w = w

part-within : (p : Part) (f : Facts) (at : ℕ) (text : List ℕ) → Within (length text) (part p f at text)
unfolding part
part-within p f at text =
    chosen (length text) (repeats p) (all (turn p) f at text) (turned (turn p f at text) Next) (all-within (turn p) (turn-falls p) f at text)
    (turned-within (length text) (turn p f at text) Next (turn-falls p f at text) (λ g a t. omega arith))

parts-within : (ps : List Part) (f : Facts) (at : ℕ) (text : List ℕ) → Within (length text) (parts ps f at text)
unfolding parts
parts-within [] f at text = omega arith
parts-within (p ∷ ps) f at text = within-bind (length text) (part p f at text) (parts ps) (part-within p f at text) (parts-within ps)

behind-falls : (n m : ℕ) (s : Step) → Within n s → n < m → Falls m (behind_command s)
behind-falls n m (Next f at text) w lt = omega arith
behind-falls n m (Stop o) w lt = tt

either : (n : ℕ) (b : Bool) (s t : Turn) → Falls n s → Falls n t → Falls n (cond b s t)
either n true s t v w = v
either n false s t v w = w

opened-falls : (n : ℕ) (r : Result Command StreamFault) (f : Facts) (at : ℕ) (more : List ℕ) → length more < n → Falls n (opened r f at more)
opened-falls n (Err e) f at more lt = tt
opened-falls n (Ok c) f at more lt =
    either n (is_done c) (Over (Stop (Whole f.rows))) (behind_command (parts (parts_of c) (with_line c f) at more)) tt
    (behind-falls (length more) n (parts (parts_of c) (with_line c f) at more) (parts-within (parts_of c) (with_line c f) at more) lt)

first-falls : (most : ℕ) (f : Facts) (at n : ℕ) (l : Lined) → Shortens n l → Falls n (on_first_line most f at l)
first-falls most f at n (Line line more) s = opened-falls n (opens most (length (rows_of f)) at line) (settled f) (at + (length line + 1)) more s
first-falls most f at n Nothing s = tt
first-falls most f at n Cut s = tt
first-falls most f at n TooLong s = tt

pub command-falls : (most : ℕ) → AlwaysFalls (command most)
unfolding command
command-falls most f at text = first-falls most f at (length text) (line_of text) (line-shortens text)
