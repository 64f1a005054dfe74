use Rattle.std.proofs.Common.{◌≡◌, ◌≤◌, map, take, length}
use Rattle.std.specs.Prelude.{option_map, vec_len, vec_capacity}
use Rattle.std.specs.Arc.{arc_value}
use Rattle.book.specs.Pieces.{set_at}
use Rattle.book.proofs.pieces.all_made.Given as goal

-- the sets so far, and room for the rest
abbrev pub invariant-loop-place : goal.invariant-loop-place
invariant-loop-place l = (map (λ m. option_map (λ a. arc_value a) m) l.made.items ≡ map set_at (take l.place-index l.places))
    × (vec_len l.made ≡ l.place-index) × (length l.places ≤ vec_capacity l.made)
