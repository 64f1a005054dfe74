-- What the code keeps of a stream that has come so far, and what it stands for.
use Rattle.std.specs.Prelude.{◌≡◌, ◌≢◌, ℕ, ◌+◌, if◌then◌else◌, false, List, ◌++◌, length}
use Rattle.fast_export.specs.declared.fault.StreamFault.{StreamFault}
use Rattle.fast_export.specs.declared.fault.StreamFault.TheVariants as faults
use Rattle.fast_export.specs.declared.grammar.Part.{Part}
use Rattle.fast_export.specs.declared.reading.Reading.{Reading}
use Rattle.fast_export.specs.Facts.{Facts}
use Rattle.fast_export.specs.Stream.{Step, Stop, ◌>>=◌, Bad, Whole, skipping}
use Rattle.fast_export.specs.Commits.{facts_of}
use Rattle.fast_export.specs.Following.{left}

-- how many bytes have come
abbrev pub come : Reading → ℕ
come r = r.at + length r.line.items

-- What is left of a stream whose next bytes are the text: so many bytes that are passed over, and then, behind
-- the front of a line, these parts.
unfoldable pub going : ℕ → List Part → Facts → List ℕ → ℕ → ℕ → List ℕ → Step
going most ps f line at skip text = skipping skip f at text >>= λ g offset rest. left most ps g offset (line ++ rest)

-- what the stream is if this text comes next
abbrev pub resume : Reading → List ℕ → Step
resume r text =
    if r.ended then Stop (Whole r.commands.commits.rows)
    else going r.commands.most r.commands.parts.now (facts_of r.commands.commits) r.line.items r.at r.skip text

-- Of the text, what is behind it is still to come.
pub record Leads (old : Reading) (text : List ℕ) (new : Reading) (rest : List ℕ) : Type 0 where
  pub same : (more : List ℕ) → resume old (text ++ more) ≡ resume new (rest ++ more)
  pub count : come new + length rest ≡ come old + length text
  pub most : new.commands.most ≡ old.commands.most

-- The text has the fault, whatever comes next.
abbrev pub Faulty : Reading → List ℕ → StreamFault → Type 0
Faulty old text e = e ≢ faults.Memory → (more : List ℕ) → resume old (text ++ more) ≡ Stop (Bad e)

-- A line comes next.
abbrev pub IsAtLine : Reading → Type 0
IsAtLine r = (r.ended ≡ false) × (r.skip ≡ 0)
