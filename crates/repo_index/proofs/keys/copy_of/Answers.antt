use Rattle.std.proofs.Common.{◌≡◌, ℕ, ◌++◌, ◌∷◌, [], false, List, take, sym, ap, subst, ◌∙◌, arith}
use Rattle.std.specs.List.{list_any, IsDistinct}
use Rattle.std.specs.Str.{bytes_eq}
use Rattle.std.proofs.lemmas.List.{take_all, take_more}
use Rattle.package_index.proofs.Numbering.{none-before-it, inserted}
use Rattle.repo_index.proofs.keys.copy_of.Goals as goal

pub loop-key-init : goal.loop-key-init
loop-key-init c = c.in_ok-copy.ensures.empty

pub loop-key-preserved : goal.loop-key-preserved
loop-key-preserved c =
    let items = c.as_slice-key-items.result.now in
    let k = c.loop-key.key-index in
    let key = c.key-item.result in
    let apart : IsDistinct bytes_eq items = subst (λ (xs : List (List ℕ)). IsDistinct bytes_eq xs) (sym c.as_slice-key-items.ensures.keys) c.as_slice-key-items.ensures.unique in
    let absent : list_any (bytes_eq key) c.loop-key.copy.keys ≡ false =
    ap (λ (xs : List (List ℕ)). list_any (bytes_eq key) xs) c.loop-key.invariant ∙ ap (λ (t : List ℕ). list_any (bytes_eq t) (take k items)) c.key-item.is ∙ none-before-it items k key apart c.loop-key-test.true
    in
    inserted c.loop-key.copy.keys c.insert.new.self.keys key c.in_ok-copy-2.field-0 absent c.in_ok-copy-2.ensures c.in_ok-insert.ensures.keys
    ∙ ap (λ (xs : List (List ℕ)). xs ++ key ∷ []) c.loop-key.invariant
    ∙ sym (take_more items k key c.loop-key-test.true ∙ ap (λ (t : List ℕ). take k items ++ t ∷ []) (sym c.key-item.is))

pub returns : goal.returns
returns c = c.loop-key.invariant ∙ take_all c.loop-key.key-index c.as_slice-key-items.result.now (omega (arith, c.loop-key-test.false)) ∙ c.as_slice-key-items.ensures.keys
