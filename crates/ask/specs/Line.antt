-- What a line of advisories is read as (our own; an advisory by the OSV schema 1.6).
use Rattle.std.specs.Prelude.{ℕ, List, ◌++◌, Result, Ok, Err, codes}
use Rattle.std.specs.Fmt.{decimal}
use Rattle.osv_record.specs.Advisories.{Advisory}
use Rattle.osv_record.specs.Faults.{code_of, name_of}
use Rattle.osv_record.specs.Reading.{advisory}
use Rattle.osv_record.specs.declared.fault.RecordFault.{RecordFault}
use Rattle.ask.specs.declared.line.LineFault.{LineFault}

-- a refusal of the line of this number
abbrev pub at_line : ℕ → Result Advisory RecordFault → Result Advisory LineFault
at_line n (Ok r) = Ok r
at_line n (Err e) = Err (record { number = n; fault = e })

-- the advisory of a numbered line, or its refusal
abbrev pub read_line : ℕ × List ℕ → Result Advisory LineFault
read_line p = at_line p.0 (advisory p.1)

abbrev pub refused_line : LineFault → List ℕ
refused_line e = codes "refused line " ++ (decimal e.number ++ (codes " " ++ (decimal (code_of e.fault) ++ (codes " " ++ (name_of e.fault ++ codes "\n")))))
