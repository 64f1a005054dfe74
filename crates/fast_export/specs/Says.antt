-- What was done with a line.
use Rattle.std.specs.Prelude.{◌≡◌, ◌≢◌, Result, Ok, Err}
use Rattle.fast_export.specs.declared.fault.StreamFault.{StreamFault}
use Rattle.fast_export.specs.declared.fault.StreamFault.TheVariants as faults
use Rattle.fast_export.specs.declared.commits.Taken.{Taken}
use Rattle.fast_export.specs.declared.commits.Taken.TheVariants as taken
use Rattle.fast_export.specs.Facts.{Facts, Answer, Took, Counts, Passed, Refused}

-- What was done with a line is the answer, unless memory ran out.
abbrev pub Says : Result Taken StreamFault → Facts → Facts → Answer → Type 0
Says (Ok taken.Line) old new answer = answer ≡ Took new
Says (Ok (taken.Counts n)) old new answer = (answer ≡ Counts n) × (new ≡ old)
Says (Ok taken.Nothing) old new answer = (answer ≡ Passed) × (new ≡ old)
Says (Err e) old new answer = e ≢ faults.Memory → answer ≡ Refused e
