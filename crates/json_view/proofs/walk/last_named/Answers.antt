use Rattle.std.proofs.Common.{◌≡◌, Bool, true, false, cond, drop, Option, option_map, Some, None, refl, sym, ap, ◌∙◌, subst, arith}
use Rattle.std.specs.Str.{bytes_eq}
use Rattle.json.specs.Json.{Json, no_members}
use Rattle.json.specs.Find.{Finds, later_or, get_member}
use Rattle.json_view.proofs.walk.last_named.Goals as goal

or_none : (o : Option Json) → o ≡ later_or o None
or_none None = refl
or_none (Some j) = refl

newer : (o : Option Json) (j : Json) (p : Option Json) → later_or (later_or o (Some j)) p ≡ later_or o (Some j)
newer None j p = refl
newer (Some k) j p = refl

pub loop-key-init : goal.loop-key-init
loop-key-init c ms given = (ms, None, given, refl, or_none _)

pub loop-key-preserved-then-eq : goal.loop-key-preserved-then-eq
loop-key-preserved-then-eq c ms given =
    let name = c.args.name.now in
    let now = c.loop-key.invariant ms given in
    let f = c.in-Some.ensures.value now.0 now.2 in
    let turn = now.4 ∙ ap (λ m. later_or (get_member name m) now.1) f.2 in
    let pick = λ (b : Bool). later_or (later_or (get_member name f.1) (cond b (Some f.0) None)) now.1 in
    let same : bytes_eq c.in-Some.key.now name ≡ true = grind arith in
    (f.1, Some f.0, f.4, (f.0, refl, f.3), turn ∙ ap pick same ∙ newer (get_member name f.1) f.0 now.1)

pub loop-key-preserved : goal.loop-key-preserved
loop-key-preserved c ms given =
    let name = c.args.name.now in
    let now = c.loop-key.invariant ms given in
    let f = c.in-Some.ensures.value now.0 now.2 in
    let turn = now.4 ∙ ap (λ m. later_or (get_member name m) now.1) f.2 in
    let pick = λ (b : Bool). later_or (later_or (get_member name f.1) (cond b (Some f.0) None)) now.1 in
    let other : bytes_eq c.in-Some.key.now name ≡ false = grind arith in
    (f.1, now.1, f.4, now.3, turn ∙ ap pick other ∙ ap (λ o. later_or o now.1) (sym (or_none _)))

pub returns : goal.returns
returns c ms given =
    let now = c.loop-key.invariant ms given in
    let done : now.0 ≡ no_members = c.in_default.ensures.value now.0 now.2 in
    subst (Finds (option_map (λ i. drop i c.args.tape.now) c.loop-key.found)) (sym (now.4 ∙ ap (λ m. later_or (get_member c.args.name.now m) now.1) done)) now.3
