use Rattle.std.proofs.Common.{◌≡◌, ◌≤◌, ◌++◌, drop, length, map}
use Rattle.repo_index.specs.Index.{kept_seen, picked}
use Rattle.repo_index.proofs.picking.picked.Given as goal

abbrev pub invariant-loop-one : goal.invariant-loop-one
invariant-loop-one l =
    record {
      rest : picked l.number l.start (map kept_seen l.kept) ≡ l.indexes.items ++ picked l.number l.next (map kept_seen (drop l.one-index l.kept));
      fits : length l.indexes.items ≤ l.most;
    }
