use Rattle.std.proofs.Common.{◌≡◌, ℕ, List, ◌∙◌, arith}
use Rattle.std.specs.Prelude.{Option, Some, None}
use Rattle.hex.specs.Hex.{IsBytes, encode_lower}
use Rattle.osv_prim.specs.Oids.{oid_of}
use Rattle.drill_input.proofs.Ids.{read-back}
use Rattle.drill_input.proofs.Pushing.{on_ok}
use Rattle.drill_input.proofs.draws.id_of_bytes.Goals as goal

none_some : {x : List ℕ} → None ≡ Some x → ⊥
none_some e = cc

same_some : {x y : List ℕ} → Some x ≡ Some y → x ≡ y
same_some e = cc

pub unreachable-requires : goal.unreachable-requires
unreachable-requires c =
    let bytes : IsBytes c.args.bytes.now = λ i. let f = c.type_inv.bytes i in omega arith in
    let out = on_ok c.encode_to_slice.result _ (c.encode_to_slice.ensures.fits.1 (omega (arith, c.requires))) c.encode_to_slice.ensures.written in
    none_some (c.in-Err.ensures.value ∙ read-back c.args.bytes.now c.as_slice.result.now bytes c.requires (c.as_slice.ensures ∙ out))

pub returns : goal.returns
returns c =
    let bytes : IsBytes c.args.bytes.now = λ i. let f = c.type_inv.bytes i in omega arith in
    let out = on_ok c.encode_to_slice.result _ (c.encode_to_slice.ensures.fits.1 (omega (arith, c.requires))) c.encode_to_slice.ensures.written in
    same_some (c.in-Ok.ensures.value ∙ read-back c.args.bytes.now c.as_slice.result.now bytes c.requires (c.as_slice.ensures ∙ out))
