-- The bytes behind a line.
use Rattle.std.proofs.Common.{◌≡◌, ℕ, ◌+◌, ◌<◌, true, eqb, List, [], ◌∷◌, ◌++◌, length, length-append, append_assoc, refl, sym, ap, subst, ◌∙◌, arith}
use Rattle.std.specs.Prelude.{Result, Ok, Err, Option, Some, None, is_some, codes}
use Rattle.std.specs.Option.{option_map_or}
use Rattle.std.proofs.lemmas.List.{drop_at}
use Rattle.osv_prim.specs.Oids.{oid_of}
use Rattle.fast_export.specs.declared.fault.StreamFault.{StreamFault}
use Rattle.fast_export.specs.declared.fault.StreamFault.TheVariants as faults
use Rattle.fast_export.specs.declared.grammar.Part.{Part}
use Rattle.fast_export.specs.declared.grammar.Part.TheVariants as parts_are
use Rattle.osv_prim.specs.Numerals.{u64_of}
use Rattle.fast_export.specs.Lines.{behind, begins, mark_of, is_file, is_inline}
use Rattle.fast_export.specs.Grammar.{Opening, parts_of, is_done, word_text}
use Rattle.fast_export.specs.Facts.{Facts, start, settled, rows_of, Answer, Took, Counts, Passed, Refused, takes, opens, with_line, mark_line, commit_mark, marks_commit, commit_id, data_line, parent_of, with_parent, parent_text, parent_line, merge_line, file_line}
use Rattle.fast_export.specs.Stream.{Step, ◌>>=◌, outcome, stream}
use Rattle.fast_export.specs.Following.{left, Offered, Goes, Ends, Refuses, first_line, with_answer, offered, behind_line}
use Rattle.fast_export.proofs.Cuts.{line-whole}
use Rattle.fast_export.proofs.Left.{parts-none, left-line}
use Rattle.fast_export.proofs.Resumes.{long_enough}
use Rattle.fast_export_laws.specs.Laws.{StandsAtLine, IsFollowed, LinesFollow, OnlyDataIsFollowed, BytesAreFree}
use Rattle.fast_export_laws.proofs.OfLines.{opt, test}

-- ---- lines follow one another

pub at_first : (most : ℕ) → StandsAtLine most [] [] start
unfolding stream
at_first most more = ap outcome (sym (parts-none most start 0 more))

-- what is left behind a line and the bytes that it counts
behind_bytes : (most : ℕ) (ps : List Part) (f : Facts) (at : ℕ) (line bytes after : List ℕ) (rest : List Part) (g : Facts) → IsFollowed most ps f at line (length bytes) rest g
    → left most ps f at (line ++ 10 ∷ (bytes ++ after)) ≡ left most rest g (at + (length line + 1) + length bytes) after
behind_bytes most ps f at line bytes after rest g is =
    left-line most ps f at (line ++ 10 ∷ (bytes ++ after)) line (bytes ++ after) (line-whole line (bytes ++ after) is.clean is.short)
    ∙ ap (λ (o : Offered). behind_line most o (at + (length line + 1)) (bytes ++ after)) is.goes
    ∙ ap (λ (s : Step). s >>= left most rest) (long_enough (length bytes) g (at + (length line + 1)) (bytes ++ after) (omega (arith, length-append bytes after)))
    ∙ ap (left most rest g (at + (length line + 1) + length bytes)) (drop_at bytes after (length bytes) refl)

-- the whole stream, from there on
from_there : (most : ℕ) (front line bytes after : List ℕ) (ps rest : List Part) (f g : Facts) → StandsAtLine most front ps f → IsFollowed most ps f (length front) line (length bytes) rest g
    → stream (front ++ (line ++ 10 ∷ (bytes ++ after))) most ≡ outcome (left most rest g (length front + (length line + 1) + length bytes) after)
from_there most front line bytes after ps rest f g stands is =
    stands (line ++ 10 ∷ (bytes ++ after)) ∙ ap outcome (behind_bytes most ps f (length front) line bytes after rest g is)

pub follows : LinesFollow
follows most front line bytes ps rest f g stands is more =
    let joined : (front ++ (line ++ 10 ∷ bytes)) ++ more ≡ front ++ (line ++ 10 ∷ (bytes ++ more)) =
    append_assoc front (line ++ 10 ∷ bytes) more ∙ ap (λ (t : List ℕ). front ++ t) (append_assoc line (10 ∷ bytes) more) in
    let long : length front + (length line + 1) + length bytes ≡ length (front ++ (line ++ 10 ∷ bytes)) =
    omega (arith, length-append front (line ++ 10 ∷ bytes), length-append line (10 ∷ bytes)) in
    ap (λ (t : List ℕ). stream t most) joined ∙ from_there most front line bytes more ps rest f g stands is
    ∙ ap (λ (n : ℕ). outcome (left most rest g n more)) long

pub free : BytesAreFree
free most front line bytes other after ps rest f g stands is same =
    let other_is : IsFollowed most ps f (length front) line (length other) rest g = subst (λ (n : ℕ). IsFollowed most ps f (length front) line n rest g) (sym same) is in
    from_there most front line bytes after ps rest f g stands is
    ∙ ap (λ (n : ℕ). outcome (left most rest g (length front + (length line + 1) + n) after)) (sym same)
    ∙ sym (from_there most front line other after ps rest f g stands other_is)

-- ---- bytes follow a line `data` alone

module _ (line : List ℕ) where
  abbrev IsData : Type 0
  IsData = begins (codes "data ") line ≡ true

  abbrev AnswerData : Answer → Type 0
  AnswerData (Took f) = Unit {0}
  AnswerData (Counts n) = IsData
  AnswerData Passed = Unit {0}
  AnswerData (Refused e) = Unit {0}

  abbrev OfferedData : Offered → Type 0
  OfferedData (Goes ps n f) = 0 < n → IsData
  OfferedData (Ends f) = Unit {0}
  OfferedData (Refuses e) = Unit {0}

  mark_line-data : (f : Facts) (at : ℕ) → AnswerData (mark_line f at line)
  unfolding mark_line
  mark_line-data f at = opt AnswerData _ (behind (codes "mark ") line) _ (λ text. opt AnswerData _ (mark_of text) _ (λ n. tt) tt) tt

  commit_mark-data : (f : Facts) (at : ℕ) → AnswerData (commit_mark f at line)
  unfolding commit_mark
  commit_mark-data f at =
      opt AnswerData _ (behind (codes "mark ") line) _ (λ text. opt AnswerData (marks_commit f at) (mark_of text) _ (λ n. test AnswerData (is_some (f.marks n)) _ _ tt tt) tt) tt

  commit_id-data : (f : Facts) (at : ℕ) → AnswerData (commit_id f at line)
  unfolding commit_id
  commit_id-data f at = opt AnswerData _ (behind (codes "original-oid ") line) _ (λ text. opt AnswerData _ (oid_of text) _ (λ o. tt) tt) tt

  data_line-data : (at : ℕ) → AnswerData (data_line at line)
  unfolding data_line
  data_line-data at = by (behind (codes "data ") line) refl
    where
      by : (o : Option (List ℕ)) → behind (codes "data ") line ≡ o
          → AnswerData (option_map_or (λ text. option_map_or (λ n. Counts n) (u64_of text) (Refused (faults.BadData at))) o (Refused (faults.BadLine at)))
      by None e = tt
      by (Some text) e = opt AnswerData (λ n. Counts n) (u64_of text) (Refused (faults.BadData at)) (λ n. ap is_some e) tt

  with_parent-data : (f : Facts) (r : Result (List ℕ) StreamFault) → AnswerData (with_parent f r)
  with_parent-data f (Ok oid) = tt
  with_parent-data f (Err e) = tt

  parent_line-data : (f : Facts) (at : ℕ) → AnswerData (parent_line f at line)
  unfolding parent_line
  parent_line-data f at = opt AnswerData (parent_text f at) (behind (codes "from ") line) _ (λ text. with_parent-data f (parent_of f.marks at text)) tt

  merge_line-data : (f : Facts) (at : ℕ) → AnswerData (merge_line f at line)
  unfolding merge_line
  merge_line-data f at =
      test AnswerData (eqb (length f.parents) 0) _ _ tt (opt AnswerData (parent_text f at) (behind (codes "merge ") line) _ (λ text. with_parent-data f (parent_of f.marks at text)) tt)

  file_line-data : (f : Facts) (at : ℕ) → AnswerData (file_line f at line)
  unfolding file_line
  file_line-data f at = test AnswerData (is_file line) _ _ (test AnswerData (is_inline line) _ _ tt tt) tt

  takes-data : (p : Part) (f : Facts) (at : ℕ) → AnswerData (takes p f at line)
  unfolding takes
  takes-data parts_are.Mark f at = mark_line-data f at
  takes-data parts_are.CommitMark f at = commit_mark-data f at
  takes-data parts_are.CommitId f at = commit_id-data f at
  takes-data (parts_are.May word) f at = test AnswerData (begins (word_text word) line) _ _ tt tt
  takes-data (parts_are.Needs word) f at = test AnswerData (begins (word_text word) line) _ _ tt tt
  takes-data parts_are.Start f at = test AnswerData (begins (codes "from ") line) _ _ tt tt
  takes-data parts_are.Data f at = data_line-data at
  takes-data parts_are.Blank f at = test AnswerData (eqb (length line) 0) _ _ tt tt
  takes-data parts_are.Parent f at = parent_line-data f at
  takes-data parts_are.Merges f at = merge_line-data f at
  takes-data parts_are.Files f at = file_line-data f at

  first_line-data : (r : Result Opening StreamFault) (f : Facts) → OfferedData (first_line r f)
  first_line-data (Err e) f = tt
  first_line-data (Ok c) f = test OfferedData (is_done c) (Ends f) (Goes (parts_of c) 0 (with_line c f)) tt (λ lt. absurd (omega arith))

  with_answer-data : (p : Part) (ps : List Part) (f : Facts) (a : Answer) (others : Offered) → AnswerData a → OfferedData others → OfferedData (with_answer p ps f a others)
  with_answer-data p ps f (Took g) others h k = λ lt. absurd (omega arith)
  with_answer-data p ps f (Counts n) others h k = λ lt. h
  with_answer-data p ps f Passed others h k = k
  with_answer-data p ps f (Refused e) others h k = tt

  offered-data : (most : ℕ) (ps : List Part) (f : Facts) (at : ℕ) → OfferedData (offered most ps f at line)
  unfolding offered
  offered-data most [] f at = first_line-data (opens most (length (rows_of f)) at line) (settled f)
  offered-data most (p ∷ ps) f at = with_answer-data p ps f (takes p f at line) (offered most ps f at line) (takes-data p f at) (offered-data most ps f at)

pub only_data : OnlyDataIsFollowed
only_data most ps rest f g at n line is lt = subst (OfferedData line) is.goes (offered-data line most ps f at) lt
