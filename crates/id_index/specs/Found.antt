-- The advisory that has an id (our own).
use Rattle.std.specs.Prelude.{◌≡◌, ℕ, List, Option, Some, slice_get}
use Rattle.osv_record.specs.Advisories.{Advisory}
use Rattle.impact_job.specs.Order.{IsSplit}

-- the advisories are some below the id, the one that has it, if any, and some above it
pub record IsFoundIn (id : List ℕ) (advisories : List Advisory) (found : Option Advisory) : Type 0 where
  pub below : List Advisory
  pub above : List Advisory
  pub split : IsSplit id advisories below found above

-- the advisory is one of them, and has the id
pub record IsThere (id : List ℕ) (advisories : List Advisory) (found : Advisory) : Type 0 where
  pub place : ℕ
  pub at : slice_get advisories place ≡ Some found
  pub same : found.id ≡ id
