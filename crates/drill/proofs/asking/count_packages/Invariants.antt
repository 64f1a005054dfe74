use Rattle.std.proofs.Common.{◌≡◌, List, [], ◌∷◌}
use Rattle.osv_prim.specs.declared.oid.CommitRow.{CommitRow}
use Rattle.osv_record.specs.Advisories.{Advisory}
use Rattle.drill.specs.Imported.{Has, IsPublished, drill_key}
use Rattle.drill.specs.Drilled.{package_hits}
use Rattle.drill.proofs.asking.count_packages.Given as goal

abbrev pub invariant-loop-number : goal.invariant-loop-number
invariant-loop-number g l = (l.book.settings ≡ l.settings) × IsPublished l.book
    × ((a : List Advisory) (rows : List CommitRow) → Has l.fn.book a (drill_key ∷ []) rows → Has l.book a (drill_key ∷ []) rows × (l.sum ≡ package_hits l.number a rows))
