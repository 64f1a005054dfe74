-- What the command `check` writes, and its status (our own).
use Rattle.std.specs.Prelude.{◌≡◌, ℕ, Bool, true, false, ◌||◌, List, ◌++◌, Result, Ok, Err, Option, Some, None, if◌then◌else◌, codes}
use Rattle.std.specs.List.{flat_map, list_any}
use Rattle.std.specs.Fmt.{decimal}
use Rattle.osv_record.specs.Advisories.{Advisory}
use Rattle.osv_record.specs.Faults.{code_of, name_of}
use Rattle.osv_record.specs.Reading.{advisory}
use Rattle.osv_record.specs.declared.fault.RecordFault.{RecordFault}
use Rattle.record_check.specs.declared.notice.Notice.{Notice}
use Rattle.record_check.specs.Notices.{notices, notice_code, notice_name}
use Rattle.line_input.specs.Lines.{numbered}
use Rattle.ask.specs.declared.output.Output.{Output}
use Rattle.ask.specs.declared.checked.Verdicts.{Verdicts}

-- the range's number, or a dash where the notice is of the whole entry
abbrev pub place : Option ℕ → List ℕ
place None = codes "-"
place (Some n) = decimal n

abbrev pub notice_line : ℕ → Notice → List ℕ
notice_line n x =
    decimal n ++ (codes " notice " ++ (decimal (notice_code x.kind) ++ (codes " " ++ (notice_name x.kind ++ (codes " entry " ++ (decimal x.entry ++ (codes " range " ++ (place x.range ++ codes "\n"))))))))

abbrev pub ok_line : ℕ → List ℕ → List ℕ
ok_line n id = decimal n ++ (codes " ok " ++ (id ++ codes "\n"))

abbrev pub refused_verdict : ℕ → RecordFault → List ℕ
refused_verdict n e = decimal n ++ (codes " refused " ++ (decimal (code_of e) ++ (codes " " ++ (name_of e ++ codes "\n"))))

-- the verdict on what a line was read as
abbrev pub verdict : ℕ → Result Advisory RecordFault → List ℕ
verdict n (Ok r) = ok_line n r.id ++ flat_map (notice_line n) (notices r)
verdict n (Err e) = refused_verdict n e

abbrev pub is_refused : Result Advisory RecordFault → Bool
is_refused (Ok r) = false
is_refused (Err e) = true

abbrev pub line_verdict : ℕ × List ℕ → List ℕ
line_verdict p = verdict p.0 (advisory p.1)

abbrev pub line_refused : ℕ × List ℕ → Bool
line_refused p = is_refused (advisory p.1)

-- a verdict on each line that is not empty; 5 where one of them is refused
unfoldable pub checked : List ℕ → Output
checked input = record {
  status = if list_any line_refused (numbered 1 input) then 5 else 0;
  bytes = flat_map line_verdict (numbered 1 input);
}

-- one more verdict stands at the end
pub record AddsVerdict (line : ℕ × List ℕ) (old new : Verdicts) : Type 0 where
  pub text : new.text.items ≡ old.text.items ++ line_verdict line
  pub refused : new.refused ≡ (old.refused || line_refused line)

-- the verdicts, and 5 where some line was refused
abbrev pub verdicts_output : Verdicts → Output
verdicts_output v = record { status = if v.refused then 5 else 0; bytes = v.text.items }
