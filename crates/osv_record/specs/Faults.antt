-- The number and the name under which a refusal is printed (our own).
use Rattle.std.specs.Prelude.{ℕ, List, codes}
use Rattle.osv_record.specs.declared.fault.RecordFault.{RecordFault}
use Rattle.osv_record.specs.declared.fault.RecordFault.TheVariants as faults
use Rattle.osv_record.specs.declared.fault.Member.{Member}
use Rattle.osv_record.specs.declared.fault.Member.TheVariants as members

abbrev pub code_of : RecordFault → ℕ
code_of faults.NotJson = 1
code_of faults.NotObject = 2
code_of faults.NoId = 3
code_of faults.BadId = 4
code_of faults.NoModified = 5
code_of faults.BadModified = 6
code_of (faults.WrongType m) = 7
code_of faults.BadRangeType = 8
code_of faults.GitWithoutRepo = 9
code_of faults.NoEvents = 10
code_of faults.BadEvent = 11
code_of faults.NoIntroduced = 12
code_of faults.BadPackage = 13
code_of faults.TooLarge = 14
code_of faults.Memory = 15

abbrev pub wrong_type_name : Member → List ℕ
wrong_type_name members.Withdrawn = codes "WrongType(Withdrawn)"
wrong_type_name members.Affected = codes "WrongType(Affected)"
wrong_type_name members.Entry = codes "WrongType(Entry)"
wrong_type_name members.Ranges = codes "WrongType(Ranges)"
wrong_type_name members.Range = codes "WrongType(Range)"
wrong_type_name members.Repo = codes "WrongType(Repo)"
wrong_type_name members.Events = codes "WrongType(Events)"
wrong_type_name members.Versions = codes "WrongType(Versions)"
wrong_type_name members.Version = codes "WrongType(Version)"

abbrev pub name_of : RecordFault → List ℕ
name_of faults.NotJson = codes "NotJson"
name_of faults.NotObject = codes "NotObject"
name_of faults.NoId = codes "NoId"
name_of faults.BadId = codes "BadId"
name_of faults.NoModified = codes "NoModified"
name_of faults.BadModified = codes "BadModified"
name_of (faults.WrongType m) = wrong_type_name m
name_of faults.BadRangeType = codes "BadRangeType"
name_of faults.GitWithoutRepo = codes "GitWithoutRepo"
name_of faults.NoEvents = codes "NoEvents"
name_of faults.BadEvent = codes "BadEvent"
name_of faults.NoIntroduced = codes "NoIntroduced"
name_of faults.BadPackage = codes "BadPackage"
name_of faults.TooLarge = codes "TooLarge"
name_of faults.Memory = codes "Memory"
