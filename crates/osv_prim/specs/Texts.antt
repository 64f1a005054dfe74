-- The bytes of a text, whether they stand in its value or in a block of their own (our own).
use Rattle.std.specs.Prelude.{ℕ, List, string_bytes}
use Rattle.osv_prim.specs.declared.text.Held.{Held}
use Rattle.osv_prim.specs.declared.text.Held.TheVariants.{Short, Long}

abbrev pub held_bytes : Held → List ℕ
held_bytes (Short s) = s
held_bytes (Long b) = string_bytes b.value
