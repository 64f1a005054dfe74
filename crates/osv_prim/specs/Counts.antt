-- What a counter of steps has counted (our own).
use Rattle.std.specs.Prelude.{ℕ}

-- steps on a graph's rows, and reads of advisories
pub record Counts : Type 0 where
  pub graph : ℕ
  pub record_count : ℕ

abbrev pub none_yet : Counts
none_yet = record { graph = 0; record_count = 0 }
