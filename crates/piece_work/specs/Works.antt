-- What a piece says, and what it needs (our own).
use Rattle.std.specs.Prelude.{◌≡◌, ℕ, List, [], length, take, Option, None, slice_get, MatchOption}
use Rattle.std.specs.Arc.{arc_value}
use Rattle.std.specs.Option.{option_map_or}
use Rattle.osv_prim.specs.declared.event.Event.{Event}
use Rattle.osv_record.specs.Advisories.{Extent, Advisory}
use Rattle.history.specs.declared.piece_kind.PieceKind.TheVariants.{Extend, Carry}
use Rattle.impact_set.specs.Standing.{Known, StandsFor}
use Rattle.piece_work.specs.declared.piece.Piece.{Piece}

-- the range with these indexes, of its entry in the advisory and of itself in the entry
abbrev pub extent_at : Advisory → ℕ → ℕ → Option Extent
extent_at r entry range = option_map_or (λ a. slice_get a.ranges range) (slice_get r.affected entry) None

abbrev pub events_at : Advisory → ℕ → ℕ → List Event
events_at r entry range = option_map_or (λ x. x.events) (extent_at r entry range) []

-- the events of a piece's range
abbrev pub events_of : Piece → List Event
events_of piece = events_at (arc_value piece.advisory) piece.entry piece.range

-- how many commits the set covers that is there
abbrev pub old_count : Piece → ℕ
old_count piece = option_map_or (λ old. length (arc_value {X = Known} old).reached) piece.old 0

-- the set that is to be extended is there, and stands for the first rows of the graph; that which is to be carried on stands for the graph
pub record IsReady (piece : Piece) : Type 0 where
  pub extend : piece.kind ≡ Extend → MatchOption piece.old ⊥ (λ old. StandsFor (events_of piece) (take (length (arc_value {X = Known} old).reached) (arc_value piece.graph)) (arc_value old))
  pub carry : piece.kind ≡ Carry → MatchOption piece.old ⊥ (λ old. StandsFor (events_of piece) (arc_value piece.graph) (arc_value old))
