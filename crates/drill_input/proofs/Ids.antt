-- Ids that are written and read back.
use Rattle.std.proofs.Common.{◌≡◌, ℕ, List, length, ap, ◌∙◌}
use Rattle.std.specs.Prelude.{Option, Some}
use Rattle.std.specs.Result.{result_ok}
use Rattle.hex.specs.Hex.{IsBytes, decode_sized, encode_lower}
use Rattle.hex.proofs.HexLemmas.{decode_sized-encode_lower}
use Rattle.osv_prim.specs.Oids.{oid_of}

pub read-back : (xs text : List ℕ) → IsBytes xs → length xs ≡ 20 → text ≡ encode_lower xs → oid_of text ≡ Some xs
unfolding oid_of
read-back xs text bytes count is = ap (λ (t : List ℕ). result_ok (decode_sized t 20)) is ∙ ap result_ok (decode_sized-encode_lower xs 20 count bytes)
