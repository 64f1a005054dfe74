-- The numbers of refused requests (our own).
use Rattle.std.specs.Prelude.{ℕ}
use Rattle.http_wire.specs.declared.fault.WireFault.{WireFault}
use Rattle.http_wire.specs.declared.fault.WireFault.TheVariants as faults

abbrev pub code_of : WireFault → ℕ
code_of faults.BadHead = 1
code_of faults.BadLength = 2
code_of faults.BothLengths = 3
code_of faults.BadChunk = 4
code_of (faults.BodyTooLarge limit) = 5
code_of faults.ContentCoding = 6
code_of faults.HeadTooLong = 7
code_of faults.TransferCoding = 8
