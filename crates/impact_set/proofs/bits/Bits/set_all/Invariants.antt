use Rattle.std.proofs.Common.{◌≡◌, ℕ, false, ◌||◌, eqb, length, take, get_or}
use Rattle.std.specs.List.{list_any}
use Rattle.impact_set.proofs.bits.Bits.set_all.Given as goal

abbrev pub invariant-loop-number : goal.invariant-loop-number
invariant-loop-number l =
    record {
      size : length l.self ≡ length l.fn.self;
      each : (n : ℕ) → get_or l.self n false ≡ (get_or l.fn.self n false || list_any (λ x. eqb x n) (take l.number-index l.numbers));
    }
