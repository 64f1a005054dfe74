use Rattle.std.proofs.Common.{◌≡◌, ◌+◌, length}
use Rattle.osv_record.specs.Advisories.{git_ranges, has_repos}
use Rattle.osv_record.proofs.record.git_ranges_in.Given as goal

abbrev pub invariant-loop-rest : goal.invariant-loop-rest
invariant-loop-rest l = record {
  count : l.count + git_ranges l.rest ≡ git_ranges l.fn.entries;
  zero : l.count ≡ 0 → has_repos l.rest ≡ has_repos l.fn.entries;
}

abbrev pub decreases-loop-rest : goal.decreases-loop-rest
decreases-loop-rest l = length l.rest
