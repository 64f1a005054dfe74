use Rattle.std.proofs.Common.{◌≡◌, ◌≤◌, false, take}
use Rattle.osv_record.specs.Advisories.{git_ranges_of, has_repo}
use Rattle.osv_record.proofs.record.count_git.Given as goal

-- those so far
abbrev pub invariant-loop-range : goal.invariant-loop-range
invariant-loop-range l = record {
  count : l.count ≡ git_ranges_of (take l.range-index l.ranges);
  few : l.count ≤ l.range-index;
  none : l.count ≡ 0 → has_repo (take l.range-index l.ranges) ≡ false;
}
