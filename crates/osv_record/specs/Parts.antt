-- What is read of an advisory, and its bytes (our own).
use Rattle.std.specs.Prelude.{ℕ, List}
use Rattle.osv_record.specs.declared.reading.Parts.{Parts}
use Rattle.osv_record.specs.Advisories.{Advisory}

abbrev pub of_parts : List ℕ → Parts → Advisory
of_parts bytes p = record { id = p.id; modified = p.modified; modified_text = p.modified_text; withdrawn = p.withdrawn; affected = p.affected; text = bytes }
