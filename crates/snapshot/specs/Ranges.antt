-- The version that is asked for, beside the compiled forms of ranges (our own).
use Rattle.std.specs.Prelude.{ℕ, List, Option, Some, None, ⊤}
use Rattle.range_hits.specs.Forms.{IsReadOf}
use Rattle.range_hits.specs.declared.asked.AskedVersion.{AskedVersion}

-- the version as it reads in each order, where it was read
abbrev pub IsKeysOf : Option AskedVersion → Option (List ℕ) → Type 0
IsKeysOf None version = ⊤
IsKeysOf (Some keys) None = ⊤
IsKeysOf (Some keys) (Some text) = IsReadOf keys text
