-- Where a reader of lines stands in all that its source had (our own).
use Rattle.std.specs.Prelude.{◌≡◌, ◌≤◌, ◌<◌, ◌+◌, ◌-◌, ◌*◌, ◌^◌, ◌++◌, ◌∷◌, [], ℕ, List, Bool, true, false, length, take, drop, Option, IfSome, Some, Result, Ok}
use Rattle.std.specs.Io.KnownBytes.{IsAtEnd, Consumes, prepend_known}
use Rattle.line_input.specs.Lines.{CutsLine, behind, numbered}
use Rattle.line_input.specs.Window.{items}
use Rattle.line_input.specs.declared.stop.ReadStop.{ReadStop}
use Rattle.line_input.specs.declared.reader.LineReader.{LineReader}
use Rattle.line_input.specs.declared.reader.Next.{Next}
use Rattle.line_input.specs.declared.reader.Next.TheVariants.{Here, End, TooLarge}
use Rattle.line_input.specs.declared.reader.NumberedLine.{NumberedLine}

-- the bytes that were read and not given yet
abbrev pub pending : LineReader → List ℕ
pending r = drop r.given (items r.window)

-- a line and its number
abbrev pub line_pair : NumberedLine → ℕ × List ℕ
line_pair l = (l.number, l.text.now)

-- what was given last, with the number of the last line
abbrev pub current : LineReader → ℕ × List ℕ
current r = (r.passed, take r.len (items r.window))

-- where the reader came to the end of its source, nothing is left
abbrev pub KnowsEnd : LineReader → Option (List ℕ) → Type 0
KnowsEnd r left = r.ended ≡ true → IsAtEnd left

-- The bytes that are still to be given, of so many that the source had in all.
pub record Holds (rest : List ℕ) (total : ℕ) (r : LineReader) (left : Option (List ℕ)) : Type 0 where
  pub text : prepend_known (pending r) left ≡ Some rest
  pub taken : IfSome left (λ xs. r.taken + length xs ≡ total)
  pub end : KnowsEnd r left

-- the reader stands in this input, behind the lines that it has given
abbrev pub StandsIn : List ℕ → LineReader → Option (List ℕ) → Type 0
StandsIn input r left = Holds (behind r.passed input) (length input) r left

-- the lines that are not empty behind the first n line ends
abbrev pub lines_behind : ℕ → List ℕ → List (ℕ × List ℕ)
lines_behind n input = numbered (n + 1) (behind n input)

-- How much there is still to read and to give, at most: it falls with each line and each piece.
abbrev pub to_come : LineReader → ℕ
to_come r = 2 * (2 ^ 49 - r.taken) + length (pending r)

-- The next line of the input was given, or there is none, or the input is larger than the limit.
pub record GivesLine (input : List ℕ) (old new : LineReader) (left : Option (List ℕ)) (result : Result Next ReadStop) : Type 0 where
  pub stands : StandsIn input new left
  pub here : result ≡ Ok Here → lines_behind old.passed input ≡ current new ∷ lines_behind new.passed input
  pub end : result ≡ Ok End → (lines_behind old.passed input ≡ []) × (length input ≤ old.limit)
  pub too_large : result ≡ Ok TooLarge → old.limit < length input

-- The same of the next line where empty ones count.
pub record Advances (input : List ℕ) (old new : LineReader) (left : Option (List ℕ)) (result : Result Next ReadStop) : Type 0 where
  pub stands : StandsIn input new left
  pub here : result ≡ Ok Here → CutsLine (behind old.passed input) (current new).1 (behind new.passed input)
  pub end : result ≡ Ok End → (behind old.passed input ≡ []) × (length input ≤ old.limit)
  pub too_large : result ≡ Ok TooLarge → old.limit < length input

-- The next piece of the rest was given, or it is empty, or there are more bytes in all than the limit.
pub record GivesPiece (rest : List ℕ) (total : ℕ) (old new : LineReader) (left : Option (List ℕ)) (result : Result Next ReadStop) : Type 0 where
  pub here : result ≡ Ok Here → (after : List ℕ) × (rest ≡ (current new).1 ++ after) × Holds after total new left
  pub kept : (result ≡ Ok Here → ⊥) → Holds rest total new left
  pub end : result ≡ Ok End → (rest ≡ []) × (total ≤ old.limit)
  pub too_large : result ≡ Ok TooLarge → old.limit < total

-- whether so many bytes are within the limit
abbrev pub IsWithin : ℕ → ℕ → Bool → Type 0
IsWithin limit total true = total ≤ limit
IsWithin limit total false = limit < total

-- how many bytes were given so far, at least
abbrev pub given_count : LineReader → ℕ
given_count r = r.taken - length (pending r)

-- Bytes were read behind those that are here, some where the answer says so.
pub record Fills (old new : LineReader) (left_old left_new : Option (List ℕ)) (result : Result Next ReadStop) : Type 0 where
  pub more : List ℕ
  pub items : items new.window ≡ items old.window ++ more
  pub taken : new.taken ≡ old.taken + length more
  pub consumed : Consumes left_old left_new more
  pub same : (new.len ≡ old.len) × (new.given ≡ old.given) × (new.passed ≡ old.passed) × (new.limit ≡ old.limit)
  pub here : result ≡ Ok Here → (0 < length more) × (new.taken ≤ new.limit)
  pub end : result ≡ Ok End → (length more ≡ 0) × (new.taken ≤ new.limit)
  pub too_large : result ≡ Ok TooLarge → new.limit < new.taken

-- where the source tells nothing, its end is known all the same
abbrev pub MindsEnd : LineReader → LineReader → Option (List ℕ) → Option (List ℕ) → Result Next ReadStop → Type 0
MindsEnd old new left_old left_new result = KnowsEnd old left_old → KnowsEnd new left_new × (result ≡ Ok End → IsAtEnd left_new)

-- What is held is this, the line given last has so many bytes, with its end so many, and this number; the counts stay.
pub record Marks (held : List ℕ) (long with_end number : ℕ) (old new : LineReader) : Type 0 where
  pub items : items new.window ≡ held
  pub len : new.len ≡ long
  pub given : new.given ≡ with_end
  pub passed : new.passed ≡ number
  pub taken : new.taken ≡ old.taken
  pub limit : new.limit ≡ old.limit
  pub ended : new.ended ≡ old.ended
