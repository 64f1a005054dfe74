use Rattle.std.proofs.Common.{◌≡◌, List, ℕ, true, false, Result, Ok, Err, Some, None, refl, sym, ap, ◌∙◌}
use Rattle.std.specs.Result.{MatchResult, result_ok, is_ok}
use Rattle.hex.specs.Hex.{decode_sized}
use Rattle.hex.specs.declared.error.FromHexError.{FromHexError}
use Rattle.hex.proofs.HexLemmas.{IsOk-decode_sized}
use Rattle.osv_prim.specs.Oids.{oid_of}
use Rattle.osv_prim.proofs.oid.Oid.read.Goals as goal

abbrev Decoded : Result (List ℕ) FromHexError → Result Unit FromHexError → List ℕ → Type 0
Decoded d r out = MatchResult d (λ bytes. (r ≡ Ok tt) × (out ≡ bytes)) (λ e. r ≡ Err e)

some : (d : Result (List ℕ) FromHexError) (out : List ℕ) → Decoded d (Ok tt) out → Some out ≡ result_ok d
some (Ok b) out h = ap (λ (x : List ℕ). Some x) h.1
some (Err e) out h = absurd cc

none : (d : Result (List ℕ) FromHexError) (e : FromHexError) (out : List ℕ) → Decoded d (Err e) out → None ≡ result_ok d
none (Ok b) e out h = absurd (cc h.0)
none (Err f) e out h = refl

found : (d : Result (List ℕ) FromHexError) (out : List ℕ) → Decoded d (Ok tt) out → is_ok d ≡ true
found (Ok b) out h = refl
found (Err e) out h = absurd cc

refused : (d : Result (List ℕ) FromHexError) (e : FromHexError) (out : List ℕ) → Decoded d (Err e) out → is_ok d ≡ false
refused (Ok b) e out h = absurd (cc h.0)
refused (Err f) e out h = refl

pub returns-in-Ok-clause-value : goal.returns-in-Ok-clause-value
unfolding oid_of
returns-in-Ok-clause-value c = some (decode_sized c.args.text.now 20) _ c.in-Ok.ensures.value

pub returns-in-Ok-clause-digits : goal.returns-in-Ok-clause-digits
returns-in-Ok-clause-digits c =
    let ok = found (decode_sized c.args.text.now 20) _ c.in-Ok.ensures.value in
    (λ t. (IsOk-decode_sized c.args.text.now 20).0 ok, λ h. refl)

pub returns-in-Err-clause-value : goal.returns-in-Err-clause-value
unfolding oid_of
returns-in-Err-clause-value c = none (decode_sized c.args.text.now 20) _ _ c.in-Err.ensures.value

pub returns-in-Err-clause-digits : goal.returns-in-Err-clause-digits
returns-in-Err-clause-digits c =
    let bad = refused (decode_sized c.args.text.now 20) _ _ c.in-Err.ensures.value in
    (λ t. absurd cc, λ h. sym bad ∙ (IsOk-decode_sized c.args.text.now 20).1 h)
