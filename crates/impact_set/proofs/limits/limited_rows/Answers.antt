use Rattle.std.proofs.Common.{ℕ, Bool, List, length, take, sym, subst, arith}
use Rattle.git_range.specs.Rows.{AreRows}
use Rattle.impact_set.specs.Standing.{lets_row_through, AreBefore}
use Rattle.impact_set.proofs.Prefixes.{length-first, legal-first}
use Rattle.impact_set.proofs.LetThrough.{through-before, before-through}
use Rattle.impact_set.proofs.limits.limited_rows.Goals as goal

pub before_rows-requires-clause-old : goal.before_rows-requires-clause-old
before_rows-requires-clause-old g c =
    let graph = c.args.graph.now in
    let events = c.args.events.now in
    let m = c.args.first in
    subst (λ (k : ℕ). AreBefore events (take k graph) c.args.old.now) (sym c.requires.old.size)
    (through-before (take m graph) (legal-first graph m c.requires.within c.len.ensures.legal) events c.requires.read c.requires.limited c.requires.bound c.args.old.now
    (subst (λ (k : ℕ). AreRows k c.args.old.now (lets_row_through events (take m graph))) (sym (length-first graph m c.requires.within)) c.requires.old))

pub returns-clause-through : goal.returns-clause-through
returns-clause-through g c =
    let graph = c.args.graph.now in
    let events = c.args.events.now in
    subst (λ (bs : List Bool). AreRows (length graph) bs (lets_row_through events graph)) (sym c.in_ok-digested.ensures)
    (before-through graph c.len.ensures.legal events c.requires.read c.requires.limited c.requires.bound c.in_ok-marks.marks c.in_ok-marks.ensures.before)

pub returns-in_err-marks-clause-few : goal.returns-in_err-marks-clause-few
returns-in_err-marks-clause-few g c none = c.before_rows.ensures.few (λ k le lt. none k (omega (arith, le, c.requires.old.size)) lt)

pub returns-in_err-digested-clause-few : goal.returns-in_err-digested-clause-few
returns-in_err-digested-clause-few g c none = c.before_rows.ensures.few (λ k le lt. none k (omega (arith, le, c.requires.old.size)) lt)

pub returns-clause-few : goal.returns-clause-few
returns-clause-few g c none = c.before_rows.ensures.few (λ k le lt. none k (omega (arith, le, c.requires.old.size)) lt)
