-- What a snapshot stands for (our own).
use Rattle.std.specs.Prelude.{◌≡◌, ℕ, List}
use Rattle.std.specs.Arc.{arc_value}
use Rattle.history.specs.declared.past.Past.{Past}
use Rattle.impact_job.specs.Tables as tables
use Rattle.impact_job.specs.Tables.{seen}
use Rattle.osv_prim.specs.declared.package.PackageKey.{PackageKey}
use Rattle.id_index.specs.Heads.{IsIndexOf}
use Rattle.repo_index.specs.Index as repo_index
use Rattle.form_index.specs.Index.{AreIndexed}
use Rattle.package_index.specs.Index.{found}
use Rattle.package_index.specs.Listing.{listed}
use Rattle.snapshot.specs.declared.snapshot.Snapshot.{Snapshot}

-- how many imports it is of
abbrev pub snapshot_upto : Snapshot → ℕ
snapshot_upto snapshot = (arc_value snapshot.tables).upto

-- the snapshot is that of these imports: its tables are, its indexes have their advisories under each package and their ids, and the sets of their GIT ranges under each repository, and it has the compiled forms of their ranges
pub record StandsFor (snapshot : Snapshot) (p : List Past) : Type 0 where
  pub tables : tables.StandsFor (arc_value snapshot.tables) p
  pub packages : (asked : PackageKey) → found snapshot.packages asked ≡ listed (seen (arc_value (arc_value snapshot.tables).records).items) asked
  pub repos : repo_index.IsIndexOf snapshot.repos p
  pub ranges : AreIndexed (seen (arc_value (arc_value snapshot.tables).records).items) snapshot.ranges
  pub ids : IsIndexOf snapshot.ids (seen (arc_value (arc_value snapshot.tables).records).items)
