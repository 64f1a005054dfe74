use Rattle.std.proofs.Common.{◌≡◌, ℕ, List}
use Rattle.osv_prim.specs.declared.oid.CommitRow.{CommitRow}
use Rattle.osv_record.specs.Advisories.{Advisory}
use Rattle.drill.specs.Imported.{Has}
use Rattle.drill.proofs.publishing.publish.Given as goal

abbrev pub invariant-loop : goal.invariant-loop
invariant-loop g l = (l.book.settings ≡ l.settings) × ((a : List Advisory) (ks : List (List ℕ)) (rows : List CommitRow) → Has l.fn.book a ks rows → Has l.book a ks rows)
