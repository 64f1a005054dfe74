use Rattle.std.proofs.Common.{◌≡◌, map, take}
use Rattle.std.specs.Prelude.{count_by}
use Rattle.snapshot.specs.Jobs.{cell_of}
use Rattle.book.specs.Pieces.{is_undone}
use Rattle.book.proofs.pieces.count_undone.Given as goal

-- those so far
abbrev pub invariant-loop-place : goal.invariant-loop-place
invariant-loop-place l = l.count ≡ count_by is_undone (map cell_of (take l.place-index l.places))
