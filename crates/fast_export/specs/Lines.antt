-- Lines, and what stands on one (git's documentation, git-fast-import, "Input format": each command's words are divided by one space, and LF ends its line).
use Rattle.std.specs.Prelude.{◌≡◌, ℕ, ◌+◌, ◌-◌, ◌*◌, ◌^◌, Bool, false, not, nat_lt, nat_le, if◌then◌else◌, ◌&&◌, ◌||◌, ◌==◌, List, [], ◌∷◌, length, take, drop, Option, Some, None, option_and_then, is_some, codes}
use Rattle.std.specs.List.{list_all, position_or_len, before_first, after_first}
use Rattle.std.specs.Option.{option_map_or}
use Rattle.std.specs.Str.{bytes_eq}
use Rattle.osv_prim.specs.Numerals.{is_numeral, u64_of}

abbrev pub is_lf : ℕ → Bool
is_lf c = c == 10

abbrev pub is_space : ℕ → Bool
is_space c = c == 32

-- the most bytes of a line before its LF
abbrev pub max_line_bytes : ℕ
max_line_bytes = 65536

-- no LF stands in the bytes
abbrev pub IsClean : List ℕ → Type 0
IsClean text = position_or_len is_lf text ≡ length text

-- what stands at the front of a text: a whole line and the text behind it, nothing at all, a line without
-- its LF, or a line that is too long
pub data Lined : Type 0 where
  Line : List ℕ → List ℕ → Lined
  Nothing : Lined
  Cut : Lined
  TooLong : Lined

unfoldable pub line_of : List ℕ → Lined
line_of text =
    if nat_lt max_line_bytes (position_or_len is_lf text) then TooLong
    else if nat_lt (position_or_len is_lf text) (length text) then Line (before_first is_lf text) (after_first is_lf text)
    else if length text == 0 then Nothing
    else Cut

-- what stands behind a word at the front of a line
unfoldable pub behind : List ℕ → List ℕ → Option (List ℕ)
behind word line = if bytes_eq (take (length word) line) word then Some (drop (length word) line) else None

abbrev pub begins : List ℕ → List ℕ → Bool
begins word line = is_some (behind word line)

-- ---- numbers

-- the digits of a mark, behind its colon
unfoldable pub mark_digits : List ℕ → Option (List ℕ)
mark_digits [] = None
mark_digits (c ∷ cs) = if c == 58 && is_numeral cs then Some cs else None

-- the number of a mark
abbrev pub mark_of : List ℕ → Option ℕ
mark_of text = option_and_then u64_of (mark_digits text)

-- ---- the files of a commit

abbrev pub is_file_letter : ℕ → Bool
is_file_letter c = (c == 77) || (c == 68) || (c == 82) || (c == 67) || (c == 78)

-- one of the letters M, D, R, C and N, and a space
unfoldable pub tells_file : List ℕ → Bool
tells_file [] = false
tells_file (letter ∷ []) = false
tells_file (letter ∷ space ∷ rest) = is_space space && is_file_letter letter

unfoldable pub is_file : List ℕ → Bool
is_file line = tells_file line || bytes_eq line (codes "deleteall")

-- the first field of a text, and the fields behind it
unfoldable pub field : List ℕ → List ℕ
field text = before_first is_space text

unfoldable pub other_fields : List ℕ → List ℕ
other_fields text = after_first is_space text

unfoldable pub is_inline_text : List ℕ → Bool
is_inline_text text = bytes_eq (field text) (codes "inline")

unfoldable pub is_inline_note : List ℕ → Bool
is_inline_note line = option_map_or is_inline_text (behind (codes "N ") line) false

-- a line that puts a file's bytes, or a note's, into the stream itself: `M MODE inline ..` and `N inline ..`
unfoldable pub is_inline : List ℕ → Bool
is_inline line = option_map_or (λ text. is_inline_text (other_fields text)) (behind (codes "M ") line) (is_inline_note line)
