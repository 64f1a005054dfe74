use Rattle.std.proofs.Common.{◌≡◌, ℕ, ◌++◌, ◌∷◌, [], false, List, take, sym, ap, subst, ◌∙◌, arith}
use Rattle.std.specs.List.{list_any, IsDistinct}
use Rattle.std.specs.Str.{bytes_eq}
use Rattle.std.proofs.lemmas.List.{take_all, take_more}
use Rattle.package_index.proofs.Numbering.{none-before-it, inserted}
use Rattle.package_index.proofs.numbers.copy_of.Goals as goal

pub loop-text-init : goal.loop-text-init
loop-text-init c = c.in_ok-copy.ensures.empty

pub loop-text-preserved : goal.loop-text-preserved
loop-text-preserved c =
    let items = c.as_slice-text-items.result.now in
    let k = c.loop-text.text-index in
    let text = c.text-item.result in
    let apart : IsDistinct bytes_eq items = subst (λ (xs : List (List ℕ)). IsDistinct bytes_eq xs) (sym c.as_slice-text-items.ensures.keys) c.as_slice-text-items.ensures.unique in
    let absent : list_any (bytes_eq text) c.loop-text.copy.keys ≡ false =
    ap (λ (xs : List (List ℕ)). list_any (bytes_eq text) xs) c.loop-text.invariant ∙ ap (λ (t : List ℕ). list_any (bytes_eq t) (take k items)) c.text-item.is ∙ none-before-it items k text apart c.loop-text-test.true
    in
    inserted c.loop-text.copy.keys c.insert.new.self.keys text c.in_ok-copy-2.field-0 absent c.in_ok-copy-2.ensures c.in_ok-insert.ensures.keys
    ∙ ap (λ (xs : List (List ℕ)). xs ++ text ∷ []) c.loop-text.invariant
    ∙ sym (take_more items k text c.loop-text-test.true ∙ ap (λ (t : List ℕ). take k items ++ t ∷ []) (sym c.text-item.is))

pub returns : goal.returns
returns c = c.loop-text.invariant ∙ take_all c.loop-text.text-index c.as_slice-text-items.result.now (omega (arith, c.loop-text-test.false)) ∙ c.as_slice-text-items.ensures.keys
