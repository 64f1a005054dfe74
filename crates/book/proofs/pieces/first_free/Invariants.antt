use Rattle.std.proofs.Common.{◌≤◌, map}
use Rattle.std.specs.List.{position_or_len}
use Rattle.book_model.specs.State.{is_free}
use Rattle.snapshot.specs.Jobs.{cell_of}
use Rattle.book.proofs.pieces.first_free.Given as goal

-- none so far is free
abbrev pub invariant-loop-index : goal.invariant-loop-index
invariant-loop-index l = l.index ≤ position_or_len is_free (map cell_of l.places)
