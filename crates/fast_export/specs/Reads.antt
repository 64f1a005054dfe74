-- What a reader stands for: the bytes that it was fed.
use Rattle.std.specs.Prelude.{◌≡◌, ◌≢◌, ℕ, List, ◌++◌, length, Option, MatchOption}
use Rattle.std.specs.Option.{option_map_or}
use Rattle.fast_export.specs.declared.fault.StreamFault.{StreamFault}
use Rattle.fast_export.specs.declared.fault.StreamFault.TheVariants as faults
use Rattle.fast_export.specs.declared.reading.Reading.{Reading}
use Rattle.fast_export.specs.declared.reader.Reader.{Reader}
use Rattle.fast_export.specs.Stream.{stream, outcome, Bad}
use Rattle.fast_export.specs.Reading.{come, resume}

-- Whatever comes next, the whole text is what the reading says.
pub record Follows (most : ℕ) (fed : List ℕ) (r : Reading) : Type 0 where
  pub same : (more : List ℕ) → stream (fed ++ more) most ≡ outcome (resume r more)
  pub count : come r ≡ length fed

-- the fault that the reader answers from now on
abbrev pub fault_of : Reader → Option StreamFault
fault_of reader = reader.fault

-- The reader was fed these bytes, where at most so many commits may come: it follows them, or they have its
-- fault whatever comes next, or there was no memory.
abbrev pub Reads : ℕ → List ℕ → Reader → Type 0
Reads most fed reader =
    MatchOption reader.fault (Follows most fed reader.reading) (λ e. e ≢ faults.Memory → (more : List ℕ) → stream (fed ++ more) most ≡ Bad e)

-- how many bytes it was fed, where it has no fault
abbrev pub fed_len : Reader → ℕ
fed_len reader = option_map_or (λ e. 0) reader.fault (come reader.reading)
