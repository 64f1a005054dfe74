use Rattle.std.proofs.Common.{◌≡◌, ◌∷◌, drop, is_some, length, sym, ap, ◌∙◌}
use Rattle.json.specs.Token.{begin_array}
use Rattle.json_view.specs.Trees.{shown_elements, reading, tokens_from}
use Rattle.json_view.proofs.Places.{items_of, empty_array}
use Rattle.json_view.proofs.node.Elements.len.Goals as goal

pub returns-in-Some : goal.returns-in-Some
returns-in-Some c =
    let e = c.args.self.now in
    let all = c.in-Some.tape.now in
    let here : tokens_from e.tape e.at ≡ drop e.at all = ap (λ o. tokens_from o e.at) c.in-Some.is in
    let a = items_of (drop e.at all) (ap (λ ts. is_some (reading (begin_array ∷ ts))) (sym here) ∙ e.begins) in
    c.count_items.ensures a.0 a.2 ∙ sym (ap (λ ts. length (shown_elements (reading (begin_array ∷ ts)))) here ∙ ap (λ r. length (shown_elements r)) a.1)

pub returns-in-None : goal.returns-in-None
returns-in-None c =
    sym (ap (λ o. length (shown_elements (reading (begin_array ∷ tokens_from o c.args.self.now.at)))) c.in-None.is ∙ ap (λ r. length (shown_elements r)) empty_array)
