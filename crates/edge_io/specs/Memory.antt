-- Sources and sinks over bytes in memory: which of their calls fail, and how many bytes the others move (our own).
use Rattle.std.specs.Prelude.{ℕ, ◌+◌, ◌-◌, ◌^◌, ◌==◌, Bool, List, min}
use Rattle.std.specs.List.{list_any}

-- a source: the bytes still to come, the numbers, from 0, of the calls that fail, the most bytes that a call gives,
-- how many calls there were, and how many of them failed
pub record Supply : Type 0 where
  pub left : List ℕ
  pub fails : List ℕ
  pub most : ℕ
  pub calls : ℕ
  pub faults : ℕ

-- a sink: the bytes that it took, the bytes for which it has memory, the numbers, from 0, of the calls that fail, the
-- most bytes that a call takes, how many calls there were, and how many of them failed
pub record Store : Type 0 where
  pub held : List ℕ
  pub room : ℕ
  pub fails : List ℕ
  pub most : ℕ
  pub calls : ℕ
  pub faults : ℕ

-- the next call is one of those that fail
abbrev pub fails_next : List ℕ → ℕ → Bool
fails_next fails calls = list_any (λ call. call == calls) fails

-- a count of calls with one more; it stays at its type's end
abbrev pub one_more : ℕ → ℕ
one_more calls = min (calls + 1) (2 ^ 64 - 1)
