use Rattle.std.proofs.Common.{ℕ, ◌+◌, List, [], length, Option, Some, sym, ap, ◌∙◌}
use Rattle.std.specs.Prelude.{option_map}
use Rattle.std.specs.Str.{bytes_eq}
use Rattle.std.specs.Arc.{arc_value}
use Rattle.package_index.specs.Numbers.{number_of}
use Rattle.package_index.proofs.Numbering.{some-before, none-before}
use Rattle.repo_index.proofs.keys.Keys.number.Goals as goal

pub returns-in-Some : goal.returns-in-Some
returns-in-Some c =
    let key = c.args.key.now in
    let here = sym (c.in-Some.ensures.index ∙ ap (λ s. number_of s.keys key) c.deref.ensures) in
    sym (some-before (bytes_eq key) (arc_value c.self.inside.shared).keys c.self.inside.later.keys [] c.in-Some.number here) ∙ ap (λ (ks : List (List ℕ)). number_of ks key) c.self.view_is

pub returns-in-None : goal.returns-in-None
returns-in-None c =
    let key = c.args.key.now in
    let shared = (arc_value c.self.inside.shared).keys in
    let before = sym (c.in_default.ensures.index ∙ ap (λ s. number_of s.keys key) c.deref.ensures) in
    sym (none-before (bytes_eq key) shared c.self.inside.later.keys before ∙ ap (λ (o : Option ℕ). option_map (λ k. length shared + k) o) (sym c.in-None.ensures.index))
    ∙ ap (λ (ks : List (List ℕ)). number_of ks key) c.self.view_is

pub returns-in-Some-get_index_of : goal.returns-in-Some-get_index_of
returns-in-Some-get_index_of c =
    let key = c.args.key.now in
    let shared = (arc_value c.self.inside.shared).keys in
    let before = sym (c.in_default.ensures.index ∙ ap (λ s. number_of s.keys key) c.deref.ensures) in
    let long = c.len.ensures.len ∙ ap (λ s. length s.keys) c.deref-in-Some-get_index_of.ensures in
    ap (λ (n : ℕ). Some (n + c.in-Some-get_index_of.number)) long
    ∙ sym (none-before (bytes_eq key) shared c.self.inside.later.keys before ∙ ap (λ (o : Option ℕ). option_map (λ k. length shared + k) o) (sym c.in-Some-get_index_of.ensures.index))
    ∙ ap (λ (ks : List (List ℕ)). number_of ks key) c.self.view_is
