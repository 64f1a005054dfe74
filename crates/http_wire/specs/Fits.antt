-- A stage that a reader of a body may be left in.
use Rattle.std.specs.Prelude.{ℕ, ◌≤◌, ◌+◌, ◌-◌}
use Rattle.http_wire.specs.declared.rest.Stage.{Stage}
use Rattle.http_wire.specs.declared.rest.Stage.TheVariants as stages

-- the sum of the sizes so far, or the room for trailers
abbrev pub spent : Stage → ℕ
spent (stages.Bytes n) = 0
spent (stages.Line sum) = sum
spent (stages.Chunk n sum) = sum
spent (stages.Trailers room) = room

-- the most of it
abbrev pub most_of : ℕ → Stage → ℕ
most_of limit (stages.Bytes n) = limit
most_of limit (stages.Line sum) = limit
most_of limit (stages.Chunk n sum) = limit
most_of limit (stages.Trailers room) = 65536

abbrev pub IsFit : ℕ → Stage → Type 0
IsFit limit s = spent s ≤ most_of limit s

-- how many bytes the body may have yet
abbrev pub work : ℕ → Stage → ℕ
work limit (stages.Bytes n) = n
work limit (stages.Line sum) = limit - sum
work limit (stages.Chunk n sum) = (limit - sum) + n
work limit (stages.Trailers room) = 0
