-- The faults of a text are those of its lines: that it ends where it may not is none of them.
use Rattle.std.proofs.Common.{◌≡◌, ℕ, zero, suc, ◌+◌, Bool, true, false, cond, not, ◌&&◌, ltb, leb, eqb, List, [], ◌∷◌, length, refl, ap, subst}
use Rattle.std.specs.Prelude.{Result, Ok, Err, Option, Some, None, option_and_then, is_some, codes}
use Rattle.std.specs.Option.{option_map_or}
use Rattle.osv_prim.specs.Oids.{oid_of}
use Rattle.osv_prim.specs.declared.oid.CommitRow.{CommitRow}
use Rattle.fast_export.specs.declared.fault.StreamFault.{StreamFault}
use Rattle.fast_export.specs.declared.fault.StreamFault.TheVariants as faults
use Rattle.fast_export.specs.declared.grammar.Part.{Part}
use Rattle.fast_export.specs.declared.grammar.Part.TheVariants as parts_are
use Rattle.osv_prim.specs.Numerals.{u64_of}
use Rattle.fast_export.specs.Lines.{Lined, Line, Nothing, Cut, TooLong, line_of, behind, begins, mark_of, mark_digits, is_file, is_inline}
use Rattle.fast_export.specs.Grammar.{Opening, may_end, repeats, parts_of, is_done, word_text}
use Rattle.fast_export.specs.Facts.{Facts, start, settled, rows_of, Answer, Took, Counts, Passed, Refused, takes, opens, with_line, mark_line, commit_mark, marks_commit, commit_id, data_line, by_mark, parent_of, with_parent, parent_text, parent_line, merge_line, file_line, other_command, names}
use Rattle.fast_export.specs.Stream.{Step, Next, Stop, ◌>>=◌, Outcome, Bad, Whole, Short, Turn, Again, Over, turned, repeated, all, at_end, skipping, answered, on_line, turn, part, parts, behind_command, opened, on_first_line, command, outcome, stream, answer}
use Rattle.fast_export_laws.specs.Laws.{EndsExactly}

abbrev IsOfLine : StreamFault → Type 0
IsOfLine (faults.BadLine at) = Unit {0}
IsOfLine (faults.BadData at) = Unit {0}
IsOfLine (faults.NoOriginalOid at) = Unit {0}
IsOfLine (faults.BadOid at) = Unit {0}
IsOfLine (faults.UnknownMark at) = Unit {0}
IsOfLine (faults.MarkTwice at) = Unit {0}
IsOfLine (faults.RefParent at) = Unit {0}
IsOfLine (faults.Ended at) = ⊥
IsOfLine (faults.TooManyCommits at) = Unit {0}
IsOfLine (faults.LineTooLong at) = Unit {0}
IsOfLine faults.Memory = ⊥

abbrev OfLine : Outcome → Type 0
OfLine (Bad e) = IsOfLine e
OfLine (Whole rows) = Unit {0}
OfLine Short = Unit {0}

abbrev StepOfLine : Step → Type 0
StepOfLine (Next f at text) = Unit {0}
StepOfLine (Stop o) = OfLine o

abbrev TurnOfLine : Turn → Type 0
TurnOfLine (Again f at text) = Unit {0}
TurnOfLine (Over s) = StepOfLine s

abbrev AnswerOfLine : Answer → Type 0
AnswerOfLine (Took f) = Unit {0}
AnswerOfLine (Counts n) = Unit {0}
AnswerOfLine Passed = Unit {0}
AnswerOfLine (Refused e) = IsOfLine e

abbrev ResultOfLine : {A : Type 0} → Result A StreamFault → Type 0
ResultOfLine (Ok x) = Unit {0}
ResultOfLine (Err e) = IsOfLine e

-- ---- choices

pub opt : {A B : Type 0} (P : B → Type 0) (g : A → B) (o : Option A) (d : B) → ((x : A) → P (g x)) → P d → P (option_map_or g o d)
opt P g None d h k = k
opt P g (Some x) d h k = h x

pub test : {B : Type 0} (P : B → Type 0) (b : Bool) (x y : B) → P x → P y → P (cond b x y)
test P true x y h k = h
test P false x y h k = k

-- ---- lines

mark_line-kind : (f : Facts) (at : ℕ) (line : List ℕ) → AnswerOfLine (mark_line f at line)
unfolding mark_line
mark_line-kind f at line = opt AnswerOfLine _ (behind (codes "mark ") line) _ (λ text. opt AnswerOfLine _ (mark_of text) _ (λ n. tt) tt) tt

commit_mark-kind : (f : Facts) (at : ℕ) (line : List ℕ) → AnswerOfLine (commit_mark f at line)
unfolding commit_mark
commit_mark-kind f at line =
    opt AnswerOfLine _ (behind (codes "mark ") line) _ (λ text. opt AnswerOfLine (marks_commit f at) (mark_of text) _ (λ n. test AnswerOfLine (is_some (f.marks n)) _ _ tt tt) tt) tt

commit_id-kind : (f : Facts) (at : ℕ) (line : List ℕ) → AnswerOfLine (commit_id f at line)
unfolding commit_id
commit_id-kind f at line = opt AnswerOfLine _ (behind (codes "original-oid ") line) _ (λ text. opt AnswerOfLine _ (oid_of text) _ (λ o. tt) tt) tt

data_line-kind : (at : ℕ) (line : List ℕ) → AnswerOfLine (data_line at line)
unfolding data_line
data_line-kind at line = opt AnswerOfLine _ (behind (codes "data ") line) _ (λ text. opt AnswerOfLine _ (u64_of text) _ (λ n. tt) tt) tt

by_mark-kind : (marks : ℕ → Option (List ℕ)) (at : ℕ) (text : List ℕ) → ResultOfLine (by_mark marks at text)
unfolding by_mark
by_mark-kind marks at text =
    opt ResultOfLine _ (mark_digits text) _ (λ digits. opt ResultOfLine _ (option_and_then marks (u64_of digits)) _ (λ o. tt) tt) tt

parent_of-kind : (marks : ℕ → Option (List ℕ)) (at : ℕ) (text : List ℕ) → ResultOfLine (parent_of marks at text)
unfolding parent_of
parent_of-kind marks at text = opt ResultOfLine _ (oid_of text) _ (λ o. tt) (by_mark-kind marks at text)

with_parent-kind : (f : Facts) (r : Result (List ℕ) StreamFault) → ResultOfLine r → AnswerOfLine (with_parent f r)
with_parent-kind f (Ok oid) h = tt
with_parent-kind f (Err e) h = h

parent_text-kind : (f : Facts) (at : ℕ) (text : List ℕ) → AnswerOfLine (parent_text f at text)
parent_text-kind f at text = with_parent-kind f (parent_of f.marks at text) (parent_of-kind f.marks at text)

parent_line-kind : (f : Facts) (at : ℕ) (line : List ℕ) → AnswerOfLine (parent_line f at line)
unfolding parent_line
parent_line-kind f at line = opt AnswerOfLine (parent_text f at) (behind (codes "from ") line) _ (parent_text-kind f at) tt

merge_line-kind : (f : Facts) (at : ℕ) (line : List ℕ) → AnswerOfLine (merge_line f at line)
unfolding merge_line
merge_line-kind f at line =
    test AnswerOfLine (eqb (length f.parents) 0) _ _ tt (opt AnswerOfLine (parent_text f at) (behind (codes "merge ") line) _ (parent_text-kind f at) tt)

file_line-kind : (f : Facts) (at : ℕ) (line : List ℕ) → AnswerOfLine (file_line f at line)
unfolding file_line
file_line-kind f at line = test AnswerOfLine (is_file line) _ _ (test AnswerOfLine (is_inline line) _ _ tt tt) tt

takes-kind : (p : Part) (f : Facts) (at : ℕ) (line : List ℕ) → AnswerOfLine (takes p f at line)
unfolding takes
takes-kind parts_are.Mark f at line = mark_line-kind f at line
takes-kind parts_are.CommitMark f at line = commit_mark-kind f at line
takes-kind parts_are.CommitId f at line = commit_id-kind f at line
takes-kind (parts_are.May word) f at line = test AnswerOfLine (begins (word_text word) line) _ _ tt tt
takes-kind (parts_are.Needs word) f at line = test AnswerOfLine (begins (word_text word) line) _ _ tt tt
takes-kind parts_are.Start f at line = test AnswerOfLine (begins (codes "from ") line) _ _ tt tt
takes-kind parts_are.Data f at line = data_line-kind at line
takes-kind parts_are.Blank f at line = test AnswerOfLine (eqb (length line) 0) _ _ tt tt
takes-kind parts_are.Parent f at line = parent_line-kind f at line
takes-kind parts_are.Merges f at line = merge_line-kind f at line
takes-kind parts_are.Files f at line = file_line-kind f at line

opens-kind : (most count at : ℕ) (line : List ℕ) → ResultOfLine (opens most count at line)
unfolding opens
opens-kind most count at line =
    test ResultOfLine (names (codes "commit ") line) _ _ (test ResultOfLine (leb most count) _ _ tt tt) (opt ResultOfLine _ (other_command line) _ (λ c. tt) tt)

-- ---- parts and commands

abbrev AlwaysOfLine : (Facts → ℕ → List ℕ → Turn) → Type 0
AlwaysOfLine t = (f : Facts) (at : ℕ) (text : List ℕ) → TurnOfLine (t f at text)

bind-kind : (s : Step) (k : Facts → ℕ → List ℕ → Step) → StepOfLine s → ((f : Facts) (at : ℕ) (text : List ℕ) → StepOfLine (k f at text)) → StepOfLine (s >>= k)
bind-kind (Next f at text) k h g = g f at text
bind-kind (Stop o) k h g = h

turned-kind : (t : Turn) (k : Facts → ℕ → List ℕ → Step) → TurnOfLine t → ((f : Facts) (at : ℕ) (text : List ℕ) → StepOfLine (k f at text)) → StepOfLine (turned t k)
turned-kind (Again f at text) k h g = g f at text
turned-kind (Over s) k h g = h

repeated-kind : (t : Facts → ℕ → List ℕ → Turn) → AlwaysOfLine t → (n : ℕ) (f : Facts) (at : ℕ) (text : List ℕ) → StepOfLine (repeated t n f at text)
unfolding repeated
repeated-kind t h zero f at text = tt
repeated-kind t h (suc n) f at text = turned-kind (t f at text) (repeated t n) (h f at text) (repeated-kind t h n)

all-kind : (t : Facts → ℕ → List ℕ → Turn) → AlwaysOfLine t → (f : Facts) (at : ℕ) (text : List ℕ) → StepOfLine (all t f at text)
unfolding all
all-kind t h f at text = repeated-kind t h (suc (length text)) f at text

skipping-kind : (n : ℕ) (f : Facts) (at : ℕ) (text : List ℕ) → StepOfLine (skipping n f at text)
unfolding skipping
skipping-kind n f at text = test StepOfLine (ltb (length text) n) _ _ tt tt

at_end-kind : (b : Bool) (f : Facts) → OfLine (at_end b f)
at_end-kind b f = test OfLine (b && not f.promised) _ _ tt tt

answered-kind : (a : Answer) (f : Facts) (at : ℕ) (more : List ℕ) (back : Step) → AnswerOfLine a → StepOfLine back → TurnOfLine (answered a f at more back)
answered-kind (Took g) f at more back h k = tt
answered-kind (Counts n) f at more back h k = skipping-kind n f at more
answered-kind Passed f at more back h k = k
answered-kind (Refused e) f at more back h k = h

on_line-kind : (p : Part) (f : Facts) (at : ℕ) (text : List ℕ) (l : Lined) → TurnOfLine (on_line p f at text l)
on_line-kind p f at text (Line line more) = answered-kind (takes p f at line) f (at + (length line + 1)) more (Next f at text) (takes-kind p f at line) tt
on_line-kind p f at text Nothing = at_end-kind (may_end p) f
on_line-kind p f at text Cut = tt
on_line-kind p f at text TooLong = tt

part-kind : (p : Part) (f : Facts) (at : ℕ) (text : List ℕ) → StepOfLine (part p f at text)
unfolding part
part-kind p f at text =
    test StepOfLine (repeats p) (all (turn p) f at text) (turned (turn p f at text) Next) (all-kind (turn p) (λ g offset rest. on_line-kind p g offset rest (line_of rest)) f at text)
    (turned-kind (turn p f at text) Next (on_line-kind p f at text (line_of text)) (λ g offset rest. tt))

parts-kind : (ps : List Part) (f : Facts) (at : ℕ) (text : List ℕ) → StepOfLine (parts ps f at text)
unfolding parts
parts-kind [] f at text = tt
parts-kind (p ∷ ps) f at text = bind-kind (part p f at text) (parts ps) (part-kind p f at text) (parts-kind ps)

behind-kind : (s : Step) → StepOfLine s → TurnOfLine (behind_command s)
behind-kind (Next f at text) h = tt
behind-kind (Stop o) h = h

opened-kind : (r : Result Opening StreamFault) (f : Facts) (at : ℕ) (more : List ℕ) → ResultOfLine r → TurnOfLine (opened r f at more)
opened-kind (Err e) f at more h = h
opened-kind (Ok c) f at more h =
    test TurnOfLine (is_done c) (Over (Stop (Whole f.rows))) (behind_command (parts (parts_of c) (with_line c f) at more)) tt
    (behind-kind (parts (parts_of c) (with_line c f) at more) (parts-kind (parts_of c) (with_line c f) at more))

first-kind : (most : ℕ) (f : Facts) (at : ℕ) (l : Lined) → TurnOfLine (on_first_line most f at l)
first-kind most f at (Line line more) = opened-kind (opens most (length (rows_of f)) at line) (settled f) (at + (length line + 1)) more (opens-kind most (length (rows_of f)) at line)
first-kind most f at Nothing = at_end-kind true f
first-kind most f at Cut = tt
first-kind most f at TooLong = tt

command-kind : (most : ℕ) → AlwaysOfLine (command most)
unfolding command
command-kind most f at text = first-kind most f at (line_of text)

outcome-kind : (s : Step) → StepOfLine s → OfLine (outcome s)
outcome-kind (Next f at text) h = tt
outcome-kind (Stop o) h = h

stream-kind : (text : List ℕ) (most : ℕ) → OfLine (stream text most)
unfolding stream
stream-kind text most = outcome-kind (all (command most) start 0 text) (all-kind (command most) (command-kind most) start 0 text)

-- ---- the end

abbrev failed : StreamFault → Result (List CommitRow) StreamFault
failed e = Err e

same_fault : (e d : StreamFault) → failed e ≡ failed d → e ≡ d
same_fault e d k = cc

no_end : (n : ℕ) (e : StreamFault) → IsOfLine e → failed e ≡ failed (faults.Ended n) → ⊥
no_end n e h k = subst IsOfLine (same_fault e (faults.Ended n) k) h

is_short : (n : ℕ) (o : Outcome) → OfLine o → answer n o ≡ Err (faults.Ended n) → o ≡ Short
is_short n (Bad e) h k = absurd (no_end n e h k)
is_short n (Whole rows) h k = absurd cc
is_short n Short h k = refl

pub ends : EndsExactly
ends text most n = (is_short n (stream text most) (stream-kind text most), λ e. ap (answer n) e)
