use Rattle.std.proofs.Common.{List, ◌∷◌, ◌++◌, [], ℕ, sym, subst}
use Rattle.std.specs.Prelude.{IfSome, Option}
use Rattle.form_index.specs.Index.{ArePlaced, IsIn}
use Rattle.form_index.proofs.Placing.{placed-kept}
use Rattle.form_index.proofs.growing.put.Goals as goal

pub returns-in_ok-push-in-Some : goal.returns-in_ok-push-in-Some
returns-in_ok-push-in-Some c = λ parts before count placed kept.
    let growing = c.args.growing.now in
    let advisory = c.args.advisory.now in
    let here : IsIn parts advisory c.in-Some.at = subst (λ (o : Option (ℕ × ℕ)). IfSome o (IsIn parts advisory)) c.in-Some.is kept in
    subst (λ (ps : List (ℕ × ℕ)). ArePlaced parts growing.forms.items (before ++ advisory ∷ []) ps) (sym c.in_ok-push-in-Some.ensures.items)
    (placed-kept parts growing.forms.items before advisory growing.places.items c.in-Some.at placed here)
