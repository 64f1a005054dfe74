-- The pieces of a build, with what they are to work on (our own).
use Rattle.std.specs.Prelude.{◌≡◌, ◌≢◌, List, Some, slice_get, MatchOption}
use Rattle.std.specs.Arc.{arc_value}
use Rattle.history.specs.declared.past.Past.{Past}
use Rattle.history.specs.declared.piece_kind.PieceKind.TheVariants.{Fresh}
use Rattle.history.specs.Prefixes.{graph}
use Rattle.history.specs.Pieces.{GitRange, repo_of, pieces}
use Rattle.impact_set.specs.Standing.{StandsFor}
use Rattle.piece_work.specs.declared.piece.Piece.{Piece}

-- it is the piece of its number in the build over the imports p which stands on the first of them, b
pub record IsPieceOf (piece : Piece) (b p : List Past) : Type 0 where
  pub range : GitRange
  pub listed : slice_get (pieces b p) piece.number ≡ Some (range, piece.kind)
  pub advisory : arc_value piece.advisory ≡ range.advisory
  pub entry : piece.entry ≡ range.entry
  pub index : piece.range ≡ range.range
  pub its_graph : arc_value piece.graph ≡ graph p (repo_of range)
  -- but for a piece that is made anew, the set is there that the range had on the graph of the first imports
  pub old : piece.kind ≢ Fresh → MatchOption piece.old ⊥ (λ old. StandsFor range.extent.events (graph b (repo_of range)) (arc_value old))
