use Rattle.std.proofs.Common.{List, ◌++◌, map, sym, subst, ◌∙◌}
use Rattle.std.specs.Arc.{arc_value}
use Rattle.history.specs.Pieces.{GitRange, ranges_of}
use Rattle.impact_job.specs.Walks.{IsBegun}
use Rattle.impact_job.proofs.Walking.{none-old}
use Rattle.impact_job.proofs.Carrying.{stay-each}
use Rattle.impact_job.proofs.todo.keep_one.Goals as goal

pub returns-then-is_empty : goal.returns-then-is_empty
returns-then-is_empty c = λ b p later k none w z.
    let r = arc_value c.args.advisory.now in
    let sets = c.args.sets.now in
    let empty = none-old b (ranges_of r) sets (sym c.is_empty.ensures ∙ c.if-is_empty.true) z in
    subst (λ (xs : List GitRange). IsBegun b p c.args.todo.now.items (xs ++ later)) empty w

pub returns-then-is_quiet : goal.returns-then-is_quiet
returns-then-is_quiet c = λ b p later k none w z.
    let r = arc_value c.args.advisory.now in
    let quiet = (c.is_quiet.ensures b p k).0 c.if-is_quiet.true in
    c.carry_each.ensures b p (ranges_of r) later w (stay-each b p r (map (λ a. arc_value a) c.args.sets.now) k.front none quiet z)
