use Rattle.std.proofs.Common.{◌≡◌, Some}
use Rattle.tests_desks.proofs.importing.importer.Given as goal

-- the desk stays one of the lock
abbrev pub invariant-loop : goal.invariant-loop
invariant-loop g l = l.desk.lock ≡ Some l.lock
