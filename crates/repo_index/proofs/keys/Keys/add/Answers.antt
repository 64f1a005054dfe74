use Rattle.std.proofs.Common.{◌≡◌, ℕ, ◌+◌, ◌++◌, ◌∷◌, [], List, length, Some, None, sym, ap, subst, ◌∙◌, append_assoc}
use Rattle.std.specs.Arc.{arc_value}
use Rattle.std.proofs.lemmas.List.{length-append}
use Rattle.package_index.specs.Numbers.{number_of}
use Rattle.package_index.proofs.Numbering.{numbered, inserted, absent-own}
use Rattle.repo_index.specs.Numbers.{KeepNumbers}
use Rattle.repo_index.proofs.Keeping.{key-more}
use Rattle.repo_index.proofs.keys.Keys.add.Goals as goal

pub returns-clause-number : goal.returns-clause-number
returns-clause-number c =
    let key = c.args.key.now in
    let shared = (arc_value c.self.inside.shared).keys in
    let later = c.self.inside.later.keys in
    let absent : number_of (shared ++ later) key ≡ None = ap (λ (ks : List (List ℕ)). number_of ks key) c.self.view_is ∙ c.requires.absent in
    let new = inserted later c.insert.new.self.keys key c.in_ok-copy.field-0 (absent-own shared later key absent) c.in_ok-copy.ensures c.in_ok-insert.ensures.keys in
    let whole : shared ++ c.insert.new.self.keys ≡ (shared ++ later) ++ key ∷ [] = ap (λ (ks : List (List ℕ)). shared ++ ks) new ∙ sym (append_assoc shared later (key ∷ [])) in
    let count = c.len.ensures.len ∙ ap (λ s. length s.keys) c.deref.ensures in
    ap (λ (ks : List (List ℕ)). number_of ks key) whole ∙ numbered (shared ++ later) key absent
    ∙ ap (λ (n : ℕ). Some n) (length-append shared later ∙ ap (λ (n : ℕ). n + length later) (sym count) ∙ ap (λ (n : ℕ). c.len.result + n) (sym c.len-2.ensures.len))

pub returns-clause-kept : goal.returns-clause-kept
returns-clause-kept c =
    let key = c.args.key.now in
    let shared = (arc_value c.self.inside.shared).keys in
    let later = c.self.inside.later.keys in
    let absent : number_of (shared ++ later) key ≡ None = ap (λ (ks : List (List ℕ)). number_of ks key) c.self.view_is ∙ c.requires.absent in
    let new = inserted later c.insert.new.self.keys key c.in_ok-copy.field-0 (absent-own shared later key absent) c.in_ok-copy.ensures c.in_ok-insert.ensures.keys in
    let whole : shared ++ c.insert.new.self.keys ≡ (shared ++ later) ++ key ∷ [] = ap (λ (ks : List (List ℕ)). shared ++ ks) new ∙ sym (append_assoc shared later (key ∷ [])) in
    subst (λ (ks : List (List ℕ)). KeepNumbers ks (shared ++ c.insert.new.self.keys)) c.self.view_is
    (subst (λ (ks : List (List ℕ)). KeepNumbers (shared ++ later) ks) (sym whole) (key-more (shared ++ later) key))
