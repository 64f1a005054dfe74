use Rattle.std.proofs.Common.{List, ◌∷◌, ◌++◌, [], ℕ, sym, subst, arith}
use Rattle.form_index.specs.Index.{ArePlaced, Part}
use Rattle.form_index.proofs.Placing.{placed-new}
use Rattle.form_index.proofs.growing.put_new.Goals as goal

pub returns : goal.returns
returns c = λ parts before count placed.
    let growing = c.args.growing.now in
    let all = before ++ c.args.advisory.now ∷ [] in
    let forms = c.in_ok-compile.field-0 in
    subst (λ (made : Part). ArePlaced parts made all c.push-2.new.self.items) (sym c.in_ok-push.ensures.items)
    (subst (λ (places : List (ℕ × ℕ)). ArePlaced parts (growing.forms.items ++ forms ∷ []) all places) (sym c.in_ok-push-2.ensures.items)
    (placed-new parts growing.forms.items before c.args.advisory.now growing.places.items forms c.args.count c.in_ok-place.place placed c.in_ok-compile.ensures count (omega (arith, c.in_ok-place.ensures, c.len.ensures, growing.forms.ok.0))))
