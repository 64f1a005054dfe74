-- What a search for a head has found out so far. No public clause cites this module.
use Rattle.std.specs.Prelude.{◌≡◌, ℕ, ◌+◌, ◌<◌, ◌≤◌, List, [], ◌++◌, length, drop, Option, Some, None, option_map}
use Rattle.std.specs.Io.KnownBytes.{IsAtEnd}
use Rattle.http_wire.specs.declared.find.Found.{Found}
use Rattle.http_wire.specs.declared.find.Found.TheVariants as found
use Rattle.http_wire.specs.Ends.{without_line_ends, head_len, most_head}

-- So many bytes of line ends stand in front, and the first empty line begins behind so many bytes more.
pub record Looked (bytes : List ℕ) (skipped passed : ℕ) : Type 0 where
  pub within : skipped + passed ≤ length bytes
  pub begins : (more : List ℕ) → without_line_ends (bytes ++ more) ≡ without_line_ends (drop skipped bytes ++ more)
  pub passes : (more : List ℕ) → head_len (drop skipped bytes ++ more) ≡ option_map (λ n. passed + n) (head_len (drop (skipped + passed) bytes ++ more))

-- behind these line ends a head of so many bytes stands, whatever follows it
pub record HasHead (bytes : List ℕ) (skipped len : ℕ) : Type 0 where
  pub within : skipped + len ≤ length bytes
  pub begins : (more : List ℕ) → without_line_ends (bytes ++ more) ≡ drop skipped bytes ++ more
  pub ends : (more : List ℕ) → head_len (drop skipped bytes ++ more) ≡ Some len

-- behind these line ends no head has ended
pub record HasNone (bytes : List ℕ) (skipped : ℕ) : Type 0 where
  pub within : skipped ≤ length bytes
  pub begins : without_line_ends bytes ≡ drop skipped bytes
  pub none : head_len (drop skipped bytes) ≡ None

-- what the bytes are in which a head has to end, and whether the source has ended behind them
abbrev pub FoundIn : List ℕ → Option (List ℕ) → Found → Type 0
FoundIn seen left (found.Head skipped len) = HasHead seen skipped len
FoundIn seen left found.TooLong = (head_len (without_line_ends seen) ≡ None) × (length seen ≡ most_head)
FoundIn seen left found.Ended = (without_line_ends seen ≡ []) × (length seen < most_head) × IsAtEnd left
FoundIn seen left found.Truncated = (head_len (without_line_ends seen) ≡ None) × (0 < length (without_line_ends seen)) × (length seen < most_head) × IsAtEnd left
FoundIn seen left found.ReadFault = head_len (without_line_ends seen) ≡ None
