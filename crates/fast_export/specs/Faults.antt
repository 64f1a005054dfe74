-- The faults of a stream: their numbers and names, and their offsets in bytes.
use Rattle.std.specs.Prelude.{ℕ, List, codes}
use Rattle.fast_export.specs.declared.fault.StreamFault.{StreamFault}
use Rattle.fast_export.specs.declared.fault.StreamFault.TheVariants as faults

abbrev pub code_of : StreamFault → ℕ
code_of (faults.BadLine at) = 1
code_of (faults.BadData at) = 2
code_of (faults.NoOriginalOid at) = 3
code_of (faults.BadOid at) = 4
code_of (faults.UnknownMark at) = 5
code_of (faults.MarkTwice at) = 6
code_of (faults.RefParent at) = 7
code_of (faults.Ended at) = 8
code_of (faults.TooManyCommits at) = 9
code_of (faults.LineTooLong at) = 10
code_of faults.Memory = 11

abbrev pub name_of : StreamFault → List ℕ
name_of (faults.BadLine at) = codes "BadLine"
name_of (faults.BadData at) = codes "BadData"
name_of (faults.NoOriginalOid at) = codes "NoOriginalOid"
name_of (faults.BadOid at) = codes "BadOid"
name_of (faults.UnknownMark at) = codes "UnknownMark"
name_of (faults.MarkTwice at) = codes "MarkTwice"
name_of (faults.RefParent at) = codes "RefParent"
name_of (faults.Ended at) = codes "Ended"
name_of (faults.TooManyCommits at) = codes "TooManyCommits"
name_of (faults.LineTooLong at) = codes "LineTooLong"
name_of faults.Memory = codes "Memory"

abbrev pub offset_of : StreamFault → ℕ
offset_of (faults.BadLine at) = at
offset_of (faults.BadData at) = at
offset_of (faults.NoOriginalOid at) = at
offset_of (faults.BadOid at) = at
offset_of (faults.UnknownMark at) = at
offset_of (faults.MarkTwice at) = at
offset_of (faults.RefParent at) = at
offset_of (faults.Ended at) = at
offset_of (faults.TooManyCommits at) = at
offset_of (faults.LineTooLong at) = at
offset_of faults.Memory = 0
