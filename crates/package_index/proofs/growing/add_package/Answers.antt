use Rattle.std.proofs.Common.{◌≡◌, ℕ, Bool, ◌&&◌, ◌||◌, eqb, List, length, ap, ◌∙◌, arith}
use Rattle.std.specs.Str.{bytes_eq}
use Rattle.osv_prim.specs.Packages.{base}
use Rattle.package_index.specs.Noted.{noted}
use Rattle.package_index.proofs.Matching.{both-noted, whole-noted, whole-base}
use Rattle.package_index.proofs.growing.add_package.Goals as goal

pub returns-in_ok-add-2-clause-noted : goal.returns-in_ok-add-2-clause-noted
returns-in_ok-add-2-clause-noted c e t i =
    let key = c.args.key.now in
    let here = eqb c.args.index i in
    let cut : c.in_ok-base.base ≡ base key.ecosystem = c.in_ok-base.ensures ∙ c.base_of-base.ensures ∙ ap base c.as_str.ensures in
    c.in_ok-add-2.ensures.noted e t i
    ∙ ap (λ (b : Bool). b || ((bytes_eq key.name t && bytes_eq e c.in_ok-base.base) && here)) (c.in_ok-add.ensures.noted e t i)
    ∙ ap (λ (w : List ℕ). (noted c.args.growing.now e t i || ((bytes_eq key.name t && bytes_eq e key.ecosystem) && here)) || ((bytes_eq key.name t && bytes_eq e w) && here)) cut
    ∙ both-noted (noted c.args.growing.now e t i) key.name t key.ecosystem e here

pub returns-else-base-len-clause-noted : goal.returns-else-base-len-clause-noted
returns-else-base-len-clause-noted c e t i =
    let key = c.args.key.now in
    let cut = ap (λ (xs : List ℕ). length xs) (c.base_of-base.ensures ∙ ap base c.as_str.ensures) in
    c.in_ok-add.ensures.noted e t i
    ∙ whole-noted (noted c.args.growing.now e t i) key.name t key.ecosystem e (eqb c.args.index i) (whole-base key.ecosystem (omega (arith, c.if-base-len.false, c.len.ensures, cut)))
