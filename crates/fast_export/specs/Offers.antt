-- What became of a line.
use Rattle.std.specs.Prelude.{◌≡◌, ◌≢◌, Result, Ok, Err, List}
use Rattle.fast_export.specs.declared.fault.StreamFault.{StreamFault}
use Rattle.fast_export.specs.declared.fault.StreamFault.TheVariants as faults
use Rattle.fast_export.specs.declared.grammar.Part.{Part}
use Rattle.fast_export.specs.declared.commands.Then.{Then}
use Rattle.fast_export.specs.declared.commands.Then.TheVariants as thens
use Rattle.fast_export.specs.Facts.{Facts}
use Rattle.fast_export.specs.Following.{Offered, Goes, Ends, Refuses}

-- What became of the line is what it does, unless memory ran out.
abbrev pub Offers : Result Then StreamFault → List Part → Facts → Offered → Type 0
Offers (Ok (thens.Skip n)) ps f o = o ≡ Goes ps n f
Offers (Ok thens.Ends) ps f o = o ≡ Ends f
Offers (Err e) ps f o = e ≢ faults.Memory → o ≡ Refuses e
