-- The number and the name under which a refusal is printed (our own).
use Rattle.std.specs.Prelude.{ℕ, List, codes}
use Rattle.query_json.specs.declared.fault.Member.{Member}
use Rattle.query_json.specs.declared.fault.Member.TheVariants as members
use Rattle.query_json.specs.declared.fault.QueryFault.{QueryFault}
use Rattle.query_json.specs.declared.fault.QueryFault.TheVariants as faults

abbrev pub code_of : QueryFault → ℕ
code_of faults.NotJson = 1
code_of faults.NotObject = 2
code_of (faults.WrongType m) = 3
code_of faults.BadCommit = 4
code_of faults.BadPurl = 5
code_of faults.BadPackage = 6
code_of faults.NoSubject = 7
code_of faults.CommitWithVersion = 8
code_of faults.BadToken = 9
code_of faults.NoQueries = 10
code_of faults.TooManyQueries = 11
code_of faults.Memory = 12

abbrev pub wrong_type_name : Member → List ℕ
wrong_type_name members.Commit = codes "WrongType(Commit)"
wrong_type_name members.Package = codes "WrongType(Package)"
wrong_type_name members.Version = codes "WrongType(Version)"
wrong_type_name members.PageToken = codes "WrongType(PageToken)"
wrong_type_name members.Name = codes "WrongType(Name)"
wrong_type_name members.Ecosystem = codes "WrongType(Ecosystem)"
wrong_type_name members.Purl = codes "WrongType(Purl)"

abbrev pub name_of : QueryFault → List ℕ
name_of faults.NotJson = codes "NotJson"
name_of faults.NotObject = codes "NotObject"
name_of (faults.WrongType m) = wrong_type_name m
name_of faults.BadCommit = codes "BadCommit"
name_of faults.BadPurl = codes "BadPurl"
name_of faults.BadPackage = codes "BadPackage"
name_of faults.NoSubject = codes "NoSubject"
name_of faults.CommitWithVersion = codes "CommitWithVersion"
name_of faults.BadToken = codes "BadToken"
name_of faults.NoQueries = codes "NoQueries"
name_of faults.TooManyQueries = codes "TooManyQueries"
name_of faults.Memory = codes "Memory"
