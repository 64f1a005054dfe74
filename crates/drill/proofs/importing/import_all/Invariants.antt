use Rattle.std.proofs.Common.{◌≡◌, ℕ, ◌<◌, List, ◌++◌, take, map}
use Rattle.std.specs.Arc.{arc_value}
use Rattle.osv_prim.specs.declared.oid.CommitRow.{CommitRow}
use Rattle.osv_record.specs.Advisories.{Advisory}
use Rattle.drill.specs.Imported.{Has}
use Rattle.drill.proofs.importing.import_all.Given as goal

abbrev pub invariant-loop-advisory : goal.invariant-loop-advisory
invariant-loop-advisory g l = (l.by < 2) × (l.book.settings ≡ l.settings)
    × ((a : List Advisory) (ks : List (List ℕ)) (rows : List CommitRow) → Has l.fn.book a ks rows → Has l.book (a ++ map (λ x. arc_value x) (take l.advisory-index l.advisories)) ks rows)
