use Rattle.std.proofs.Common.{◌≡◌, ◌++◌, take}
use Rattle.std.specs.List.{flat_map}
use Rattle.ask.specs.Checked.{notice_line}
use Rattle.ask.proofs.checked.add_notices.Given as goal

abbrev pub invariant-loop-notice : goal.invariant-loop-notice
invariant-loop-notice l = l.text.items ≡ l.initial.text.items ++ flat_map (notice_line l.number) (take l.notice-index l.noted)
