use Rattle.std.proofs.Common.{◌≡◌, ℕ, List, [], map, get_or, sym, ap, subst, ◌∙◌}
use Rattle.std.specs.Prelude.{None, Some, slice_get}
use Rattle.std.specs.Arc.{arc_value}
use Rattle.range_hits.specs.Forms.{AreFormsOf}
use Rattle.form_index.specs.Index.{Forms, form_at}
use Rattle.form_index.proofs.Placing.{at-place, none-at-place, zip-at}
use Rattle.form_index.proofs.index.FormIndex.of.Goals as goal

pub returns-in-Some-clause-same : goal.returns-in-Some-clause-same
returns-in-Some-clause-same c =
    let at : ℕ × ℕ = (c.in-Some.part, c.in-Some.place) in
    let parts = c.self.inside.parts.items in
    let places = c.self.inside.places.items in
    let there : slice_get places c.args.index ≡ Some at = sym (ap (λ (ps : List (ℕ × ℕ)). slice_get ps c.args.index) c.as_slice.ensures.value) ∙ sym c.in-Some.ensures in
    c.forms_at.ensures ∙ ap (λ (ps : List _). form_at (map (λ p. arc_value p) ps) at) c.as_slice-in-Some.ensures.value
    ∙ sym (at-place (form_at (map (λ p. arc_value p) parts)) places c.args.index at [] there)
    ∙ ap (λ (fs : List Forms). get_or fs c.args.index []) c.self.view_is

pub returns-in-Some-clause-forms : goal.returns-in-Some-clause-forms
returns-in-Some-clause-forms c = λ advisories r all at.
    subst (AreFormsOf r) (sym (returns-in-Some-clause-same c)) (zip-at AreFormsOf advisories c.args.self.now c.args.index r [] all at)

pub returns-in-None-clause-same : goal.returns-in-None-clause-same
returns-in-None-clause-same c =
    let parts = c.self.inside.parts.items in
    let places = c.self.inside.places.items in
    let none : slice_get places c.args.index ≡ None = sym (ap (λ (ps : List (ℕ × ℕ)). slice_get ps c.args.index) c.as_slice.ensures.value) ∙ sym c.in-None.ensures in
    sym (none-at-place (form_at (map (λ p. arc_value p) parts)) places c.args.index [] none) ∙ ap (λ (fs : List Forms). get_or fs c.args.index []) c.self.view_is

pub returns-in-None-clause-forms : goal.returns-in-None-clause-forms
returns-in-None-clause-forms c = λ advisories r all at.
    subst (AreFormsOf r) (sym (returns-in-None-clause-same c)) (zip-at AreFormsOf advisories c.args.self.now c.args.index r [] all at)
