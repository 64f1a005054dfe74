-- The parts of an input: advisories, and the line that names a repository with the stream behind it (our own).
use Rattle.std.specs.Prelude.{ℕ, ◌&&◌, nat_lt, List, [], ◌∷◌, length, take, drop, Option, Some, None, if◌then◌else◌, codes}
use Rattle.std.specs.Option.{option_map_or}
use Rattle.std.specs.Str.{bytes_eq, is_utf8}
use Rattle.line_input.specs.Lines.{behind}

-- a text, if the bytes are one
abbrev pub text_in : List ℕ → Option (List ℕ)
text_in bytes = if is_utf8 bytes then Some bytes else None

-- the URL of a line `repo URL`, a text that is not empty
abbrev pub url_of : List ℕ → Option (List ℕ)
url_of line = if nat_lt 5 (length line) && bytes_eq (take 5 line) (codes "repo ") then text_in (drop 5 line) else None

-- the numbered lines that are advisories, and a repository's URL with all the bytes behind its line
pub record Parts : Type 0 where
  pub advisories : List (ℕ × List ℕ)
  pub repo : Option (List ℕ × List ℕ)

abbrev pub advisories_alone : List (ℕ × List ℕ) → Parts
advisories_alone lines = record { advisories = lines; repo = None }

abbrev pub with_advisory : ℕ × List ℕ → Parts → Parts
with_advisory line parts = record { advisories = line ∷ parts.advisories; repo = parts.repo }

-- the lines of an input, of which the first that names a repository ends the advisories
abbrev pub divided : List ℕ → List (ℕ × List ℕ) → Parts
divided input [] = advisories_alone []
divided input (line ∷ lines) =
    option_map_or (λ url. record { advisories = []; repo = Some (url, behind line.0 input) }) (url_of line.1)
    (with_advisory line (divided input lines))
