use Rattle.std.proofs.Common.{◌≡◌, ℕ, ◌-◌, ◌+◌, ◌≤◌, List, length, take, refl, sym, ap, ◌∙◌, true, false, arith}
use Rattle.std.proofs.lemmas.Str.Pattern.{ends_text}
use Rattle.osv_prim.proofs.repo.without_end.Goals as goal

pub returns-in-Some : goal.returns-in-Some
returns-in-Some c =
    let p = c.in-Some.ensures.cases in
    let within : p.0 ≤ length c.args.text.now = omega (arith, p.3) in
    let has = ends_text true c.args.end.now c.args.text.now (p.0, p.1, within, rw p.1.0 p.1.2) in
    rw (← has, p.2, p.1.0) refl

pub returns-in-None : goal.returns-in-None
returns-in-None c =
    let none = ends_text false c.args.end.now c.args.text.now c.in-None.ensures.cases in
    rw (← none) refl
