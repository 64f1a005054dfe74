-- What a command over lines answers to its input, and how it is read from a source (our own).
use Rattle.std.specs.Prelude.{◌≡◌, ◌⊎◌, ℕ, nat_lt, List, ◌++◌, length, Option, IfSome, if◌then◌else◌, codes}
use Rattle.std.specs.Fmt.{decimal}
use Rattle.std.specs.Io.KnownBytes.{IsAtEnd}
use Rattle.ask.specs.declared.output.Output.{Output}

-- a line that tells what is refused
abbrev pub refusal : List ℕ → Output
refusal line = record { status = 5; bytes = line }

-- what is answered to an input of more bytes than the limit
abbrev pub too_large : ℕ → Output
too_large limit = refusal (codes "refused input larger than " ++ (decimal limit ++ codes "\n"))

-- what is answered to all the bytes of an input, where they are at most so many
abbrev pub within : ℕ → (List ℕ → Output) → List ℕ → Output
within limit answer input = if nat_lt limit (length input) then too_large limit else answer input

-- The answer to all that a source had left, which was read to its end where everything is accepted.
pub record IsAnswer (answer : List ℕ → Output) (left_old left_new : Option (List ℕ)) (o : Output) : Type 0 where
  pub whole : IfSome left_old (λ input. o ≡ answer input)
  pub end : o.status ≡ 0 → IsAtEnd left_new
  pub status : (o.status ≡ 0) ⊎ (o.status ≡ 5)
