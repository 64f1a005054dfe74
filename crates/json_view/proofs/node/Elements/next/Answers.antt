use Rattle.std.proofs.Common.{◌≡◌, ◌∷◌, drop, is_some, List, sym, ap, ap₂, ◌∙◌}
use Rattle.json.specs.Token.{begin_array}
use Rattle.json.specs.Json as tree
use Rattle.serde_json.specs.Data.{Data}
use Rattle.json_view.specs.Json.{list_of}
use Rattle.json_view.specs.Trees.{shown_items, shown_reading, shown_elements, reading, tokens_from}
use Rattle.json_view.proofs.Places.{reads, is_read, in_array, items_of, empty_array}
use Rattle.json_view.proofs.node.Elements.next.Goals as goal

pub returns-in_default-clause-none : goal.returns-in_default-clause-none
returns-in_default-clause-none c =
    ap (λ o. shown_elements (reading (begin_array ∷ tokens_from o c.args.self.now.at))) c.in_default.is ∙ ap shown_elements empty_array

pub returns-in_default-take_item-clause-none : goal.returns-in_default-take_item-clause-none
returns-in_default-take_item-clause-none c =
    let e = c.args.self.now in
    let all = c.in-Some.tape.now in
    let here : tokens_from e.tape e.at ≡ drop e.at all = ap (λ o. tokens_from o e.at) c.in-Some.is in
    let a = items_of (drop e.at all) (ap (λ ts. is_some (reading (begin_array ∷ ts))) (sym here) ∙ e.begins) in
    let none : a.0 ≡ tree.no_items = c.in_default-take_item.ensures.value a.0 a.2 in
    ap (λ ts. shown_elements (reading (begin_array ∷ ts))) here ∙ ap shown_elements a.1 ∙ ap (λ js. list_of (shown_items js)) none

pub invariant_of-self : goal.invariant_of-self
invariant_of-self c =
    let e = c.args.self.now in
    let all = c.in-Some.tape.now in
    let here : tokens_from e.tape e.at ≡ drop e.at all = ap (λ o. tokens_from o e.at) c.in-Some.is in
    let a = items_of (drop e.at all) (ap (λ ts. is_some (reading (begin_array ∷ ts))) (sym here) ∙ e.begins) in
    let f = c.in-Some-take_item.ensures.value a.0 a.2 in
    record { begins = is_read _ (tree.array f.1) (in_array _ f.1 f.4) }

pub invariant_of-result : goal.invariant_of-result
invariant_of-result c =
    let e = c.args.self.now in
    let all = c.in-Some.tape.now in
    let here : tokens_from e.tape e.at ≡ drop e.at all = ap (λ o. tokens_from o e.at) c.in-Some.is in
    let a = items_of (drop e.at all) (ap (λ ts. is_some (reading (begin_array ∷ ts))) (sym here) ∙ e.begins) in
    let f = c.in-Some-take_item.ensures.value a.0 a.2 in
    record { begins = is_read _ f.0 f.3 }

pub returns-clause-some : goal.returns-clause-some
returns-clause-some c =
    let e = c.args.self.now in
    let all = c.in-Some.tape.now in
    let here : tokens_from e.tape e.at ≡ drop e.at all = ap (λ o. tokens_from o e.at) c.in-Some.is in
    let a = items_of (drop e.at all) (ap (λ ts. is_some (reading (begin_array ∷ ts))) (sym here) ∙ e.begins) in
    let f = c.in-Some-take_item.ensures.value a.0 a.2 in
    ap (λ ts. shown_elements (reading (begin_array ∷ ts))) here ∙ ap shown_elements a.1 ∙ ap (λ js. list_of (shown_items js)) f.2
    ∙ ap₂ (λ (d : Data) (ds : List Data). d ∷ ds) (sym (ap shown_reading (reads _ f.0 f.3))) (sym (ap shown_elements (reads _ (tree.array f.1) (in_array _ f.1 f.4))))
