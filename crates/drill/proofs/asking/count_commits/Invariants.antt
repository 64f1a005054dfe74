use Rattle.std.proofs.Common.{◌≡◌, List, [], ◌∷◌, take}
use Rattle.osv_prim.specs.declared.oid.CommitRow.{CommitRow}
use Rattle.osv_record.specs.Advisories.{Advisory}
use Rattle.drill.specs.Imported.{Has, IsPublished, drill_key}
use Rattle.drill.specs.Drilled.{commit_hits}
use Rattle.drill.proofs.asking.count_commits.Given as goal

abbrev pub invariant-loop-commit : goal.invariant-loop-commit
invariant-loop-commit g l = (l.book.settings ≡ l.settings) × IsPublished l.book
    × ((a : List Advisory) (rows : List CommitRow) → Has l.fn.book a (drill_key ∷ []) rows → Has l.book a (drill_key ∷ []) rows × (l.sum ≡ commit_hits (take l.commit-index l.commits) a rows))
