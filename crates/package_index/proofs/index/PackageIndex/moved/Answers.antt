use Rattle.std.proofs.Common.{ℕ, List, length, sym, subst}
use Rattle.package_index.specs.Noted.{AreGiven}
use Rattle.package_index.proofs.Noting.{Entries}
use Rattle.package_index.proofs.index.PackageIndex.moved.Goals as goal

pub returns-clause-sound : goal.returns-clause-sound
returns-clause-sound c =
    let index = c.self.inside in
    let entries = c.in_ok-moved_entries.field-0.items in
    let before = subst (λ (es : Entries). AreGiven (length index.names) (length index.ecosystems) es) (sym c.entries.ensures.entries) c.self.invariant in
    subst (λ (ns : List (List ℕ)). AreGiven (length ns) (length c.in_ok-another-2.field-0) entries) (sym c.in_ok-another.ensures)
    (subst (λ (es : List (List ℕ)). AreGiven (length index.names) (length es) entries) (sym c.in_ok-another-2.ensures) (c.in_ok-moved_entries.ensures.given (length index.names) (length index.ecosystems) before))
