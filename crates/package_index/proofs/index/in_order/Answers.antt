use Rattle.std.proofs.Common.{ℕ, List, length, sym, ap, subst, ◌∙◌}
use Rattle.std.specs.List.Sorted.{IsStrictlySortedBy}
use Rattle.std.specs.Ordering.{nat_cmp}
use Rattle.package_index.specs.Numbers.{number_of}
use Rattle.package_index.specs.Noted.{is_entry, noted_at, AreGiven}
use Rattle.package_index.proofs.Rising.{has}
use Rattle.package_index.proofs.Grouping.{under-members, under-rising, under-same, noted-same, alike-entries, one-entry, given-same}
use Rattle.package_index.proofs.index.in_order.Goals as goal

pub invariant_of-result : goal.invariant_of-result
invariant_of-result c =
    let growing = c.args.growing in
    let sorted = c.sort_distinct.new.items.items in
    let given = given-same (length growing.names) (length growing.ecosystems) sorted c.in_ok-listed.listed c.in_ok-listed.ensures.any
    (given-same (length growing.names) (length growing.ecosystems) growing.entries.items sorted (λ test. c.in_ok-sort_distinct.ensures.same test (λ x y same. ap test (one-entry x y same))) c.requires) in
    subst (λ (ns : List (List ℕ)). AreGiven (length ns) (length c.in_ok-sealed-2.field-0) c.in_ok-listed.listed) (sym c.in_ok-sealed.ensures)
    (subst (λ (es : List (List ℕ)). AreGiven (length growing.names) (length es) c.in_ok-listed.listed) (sym c.in_ok-sealed-2.ensures) given)

pub returns-clause-ascending : goal.returns-clause-ascending
returns-clause-ascending c asked =
    let name = number_of c.in_ok-sealed.field-0 asked.name in
    let ecosystem = number_of c.in_ok-sealed-2.field-0 asked.ecosystem in
    let entries = c.sort_distinct.new.items.items in
    subst (λ (xs : List ℕ). IsStrictlySortedBy nat_cmp xs) (sym (under-same entries c.in_ok-listed.listed name ecosystem c.in_ok-listed.ensures.values))
    (under-rising entries name ecosystem c.in_ok-sort_distinct.ensures.strictly)

pub returns-clause-same : goal.returns-clause-same
returns-clause-same c asked i =
    let name = number_of c.in_ok-sealed.field-0 asked.name in
    let ecosystem = number_of c.in_ok-sealed-2.field-0 asked.ecosystem in
    let entries = c.sort_distinct.new.items.items in
    ap (λ (xs : List ℕ). has xs i) (under-same entries c.in_ok-listed.listed name ecosystem c.in_ok-listed.ensures.values)
    ∙ under-members entries name ecosystem i
    ∙ noted-same c.args.growing.entries.items entries (λ n m j. c.in_ok-sort_distinct.ensures.same (is_entry n m j) (alike-entries n m j)) name ecosystem i
    ∙ ap (λ (ks : List (List ℕ)). noted_at c.args.growing.entries.items (number_of ks asked.name) ecosystem i) c.in_ok-sealed.ensures
    ∙ ap (λ (ks : List (List ℕ)). noted_at c.args.growing.entries.items (number_of c.args.growing.names asked.name) (number_of ks asked.ecosystem) i) c.in_ok-sealed-2.ensures
