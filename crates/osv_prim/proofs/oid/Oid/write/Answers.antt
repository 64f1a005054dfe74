use Rattle.std.proofs.Common.{◌≡◌, ◌*◌, length, true, Result, Ok, Err, arith, ap, ◌∙◌}
use Rattle.std.specs.Result.{OnOk, is_ok}
use Rattle.hex.specs.Hex.{encode_lower}
use Rattle.osv_prim.specs.Oids.{text_of}
use Rattle.osv_prim.proofs.oid.Oid.write.Goals as goal

given : {E P : Type 0} (r : Result Unit E) → is_ok r ≡ true → OnOk r P → P
given (Ok x) e p = p
given (Err d) e p = absurd cc

pub returns : goal.returns
unfolding text_of
returns c =
    let twice : 40 ≡ 2 * length c.as_slice.result.now = omega (arith, ap length c.as_slice.ensures, c.self.told) in
    given c.encode_to_slice.result (c.encode_to_slice.ensures.fits.1 twice) c.encode_to_slice.ensures.written ∙ ap encode_lower (c.as_slice.ensures ∙ c.self.view_is)
