-- How long a peer may let us wait (our own).
use Rattle.std.specs.Prelude.{ℕ, ◌+◌, ◌-◌, ◌*◌, ◌/◌}
use Rattle.listeners.specs.declared.allowance.TheConstants.{PATIENCE_SECONDS, SECOND_BYTES}

-- what is left, in nanoseconds, to one that has let us wait for so many nanoseconds and moved so many bytes
abbrev pub left_nanos : ℕ → ℕ → ℕ
left_nanos waited moved = (PATIENCE_SECONDS + moved / SECOND_BYTES) * 1000000000 - waited
