use Rattle.std.proofs.Common.{◌≡◌, ℕ, List, length, map, take, sym, ap, subst, ◌∙◌}
use Rattle.std.specs.Arc.{arc_value}
use Rattle.std.proofs.lemmas.List.{take-map}
use Rattle.form_index.specs.Index.{AreIndexed, AreKept, Forms, Part, Stay}
use Rattle.form_index.proofs.Placing.{kept-first}
use Rattle.form_index.proofs.index.FormIndex.renew.Goals as goal

pub returns : goal.returns
returns c = λ old moved index.
    let parts : List Part = map (λ p. arc_value p) c.self.inside.parts.items in
    let places = c.self.inside.places.items in
    let rs = map (λ a. arc_value a) c.args.records.now in
    let n = length c.staying.result.now in
    let own = subst (λ (fs : List Forms). AreIndexed old fs) (sym c.self.view_is) index in
    let staying : map (λ p. arc_value p) c.staying.result.now ≡ take n parts =
    ap (map (λ p. arc_value p)) (c.staying.ensures ∙ ap (take n) c.as_slice-parts.ensures.value) ∙ sym (take-map (λ p. arc_value p) n c.self.inside.parts.items)
    in
    let kept = subst (λ (ps : List Part). AreKept ps old places) (sym staying) (kept-first n parts old places own) in
    c.renewed.ensures old
    (subst (λ (ms : List ℕ). Stay ms old rs) (sym c.as_slice-moved.ensures.value) moved.are.same)
    (subst (λ (ps : List (ℕ × ℕ)). AreKept (map (λ p. arc_value p) c.staying.result.now) old ps) (sym c.as_slice-places.ensures.value) kept)
