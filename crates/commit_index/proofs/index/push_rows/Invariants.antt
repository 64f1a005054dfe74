use Rattle.std.proofs.Common.{◌≡◌, ◌+◌, ◌++◌, ℕ, List, map}
use Rattle.commit_index.specs.Places.{found}
use Rattle.commit_index.proofs.Finding.{rows-before}
use Rattle.commit_index.proofs.index.push_rows.Given as goal

abbrev pub invariant-loop-number : goal.invariant-loop-number
invariant-loop-number g l =
    record {
      rows : (c : List ℕ) → found l.entries.items c ≡ found l.fn.entries.items c ++ map (λ k. (l.repo, k)) (rows-before l.graph c l.number);
      steps : l.steps.graph ≡ l.fn.steps.graph + l.number;
      records : l.steps.record_count ≡ l.fn.steps.record_count;
    }
