use Rattle.std.proofs.Common.{◌≡◌, ℕ, ◌+◌, ◌++◌, ◌∷◌, [], List, length, Some, None, sym, ap, subst, ◌∙◌, append_assoc}
use Rattle.std.specs.Arc.{arc_value}
use Rattle.std.proofs.lemmas.List.{length-append}
use Rattle.package_index.specs.Numbers.{number_of, IsKept}
use Rattle.package_index.proofs.Numbering.{numbered, kept, inserted, absent-own}
use Rattle.package_index.proofs.numbers.Texts.add.Goals as goal

pub returns-clause-number : goal.returns-clause-number
returns-clause-number c =
    let text = c.args.text.now in
    let shared = (arc_value c.self.inside.shared).keys in
    let own = c.self.inside.own.keys in
    let absent : number_of (shared ++ own) text ≡ None = ap (λ (ks : List (List ℕ)). number_of ks text) c.self.view_is ∙ c.requires.absent in
    let new = inserted own c.insert.new.self.keys text c.in_ok-copy.field-0 (absent-own shared own text absent) c.in_ok-copy.ensures c.in_ok-insert.ensures.keys in
    let whole : shared ++ c.insert.new.self.keys ≡ (shared ++ own) ++ text ∷ [] = ap (λ (ks : List (List ℕ)). shared ++ ks) new ∙ sym (append_assoc shared own (text ∷ [])) in
    let count = c.len.ensures.len ∙ ap (λ s. length s.keys) c.deref.ensures in
    ap (λ (ks : List (List ℕ)). number_of ks text) whole ∙ numbered (shared ++ own) text absent
    ∙ ap (λ (n : ℕ). Some n) (length-append shared own ∙ ap (λ (n : ℕ). n + length own) (sym count) ∙ ap (λ (n : ℕ). c.len.result + n) (sym c.len-2.ensures.len))

pub returns-clause-kept : goal.returns-clause-kept
returns-clause-kept c t =
    let text = c.args.text.now in
    let shared = (arc_value c.self.inside.shared).keys in
    let own = c.self.inside.own.keys in
    let absent : number_of (shared ++ own) text ≡ None = ap (λ (ks : List (List ℕ)). number_of ks text) c.self.view_is ∙ c.requires.absent in
    let new = inserted own c.insert.new.self.keys text c.in_ok-copy.field-0 (absent-own shared own text absent) c.in_ok-copy.ensures c.in_ok-insert.ensures.keys in
    let whole : shared ++ c.insert.new.self.keys ≡ (shared ++ own) ++ text ∷ [] = ap (λ (ks : List (List ℕ)). shared ++ ks) new ∙ sym (append_assoc shared own (text ∷ [])) in
    subst (λ (ks : List (List ℕ)). IsKept (length ks) (number_of ks t) (number_of (shared ++ c.insert.new.self.keys) t)) c.self.view_is
    (subst (λ (ks : List (List ℕ)). IsKept (length (shared ++ own)) (number_of (shared ++ own) t) (number_of ks t)) (sym whole) (kept (shared ++ own) text t))
