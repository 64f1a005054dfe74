use Rattle.std.proofs.Common.{refl}
use Rattle.std.specs.Fmt.{digits}
use Rattle.http_wire.specs.Replies.{status_line}
use Rattle.http_wire.proofs.head_line.status_line.Goals as goal

pub returns-in-200-clause-line : goal.returns-in-200-clause-line
unfolding status_line digits
returns-in-200-clause-line c = rw c.in-200.is refl

pub returns-in-400-clause-line : goal.returns-in-400-clause-line
unfolding status_line digits
returns-in-400-clause-line c = rw c.in-400.is refl

pub returns-in-404-clause-line : goal.returns-in-404-clause-line
unfolding status_line digits
returns-in-404-clause-line c = rw c.in-404.is refl

pub returns-in-405-clause-line : goal.returns-in-405-clause-line
unfolding status_line digits
returns-in-405-clause-line c = rw c.in-405.is refl

pub returns-in-409-clause-line : goal.returns-in-409-clause-line
unfolding status_line digits
returns-in-409-clause-line c = rw c.in-409.is refl

pub returns-in-410-clause-line : goal.returns-in-410-clause-line
unfolding status_line digits
returns-in-410-clause-line c = rw c.in-410.is refl

pub returns-in-413-clause-line : goal.returns-in-413-clause-line
unfolding status_line digits
returns-in-413-clause-line c = rw c.in-413.is refl

pub returns-in-415-clause-line : goal.returns-in-415-clause-line
unfolding status_line digits
returns-in-415-clause-line c = rw c.in-415.is refl

pub returns-in-431-clause-line : goal.returns-in-431-clause-line
unfolding status_line digits
returns-in-431-clause-line c = rw c.in-431.is refl

pub returns-in-501-clause-line : goal.returns-in-501-clause-line
unfolding status_line digits
returns-in-501-clause-line c = rw c.in-501.is refl

pub returns-in-503-clause-line : goal.returns-in-503-clause-line
unfolding status_line digits
returns-in-503-clause-line c = rw c.in-503.is refl

pub returns-in-507-clause-line : goal.returns-in-507-clause-line
unfolding status_line digits
returns-in-507-clause-line c = rw c.in-507.is refl
