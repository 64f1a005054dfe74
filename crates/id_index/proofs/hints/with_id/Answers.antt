use Rattle.std.proofs.Common.{sym, ◌∙◌}
use Rattle.std.specs.Arc.{arc_value}
use Rattle.id_index.proofs.There.{one_of}
use Rattle.id_index.proofs.hints.with_id.Goals as goal

pub returns-in-Some : goal.returns-in-Some
returns-in-Some c = record {
  place = c.args.place;
  at = sym c.in-Some.ensures;
  same = one_of (arc_value c.in-Some.found.now).id c.args.id.now (sym c.has_id.ensures ∙ c.if-has_id.true);
}
