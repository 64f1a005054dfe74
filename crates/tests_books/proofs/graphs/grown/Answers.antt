use Rattle.std.proofs.Common.{◌∙◌}
use Rattle.std.specs.Arc.{arc_value}
use Rattle.tests_books.proofs.Growing.{going-on}
use Rattle.tests_books.proofs.graphs.grown.Goals as goal

pub grow-requires : goal.grow-requires
grow-requires g c =
    let e = c.in_ok-version.ensures.acts in
    going-on c.in_ok-key.key c.in_ok-version.version c.deref.result.now c.as_slice.result.now (arc_value c.in_ok-larger-in-Ok.larger) e.found e.left (g.D.Desk.caller c.repo.new.self).front
    e.acts.0 (c.deref.ensures ∙ e.acts.1) e.acts.2 e.front (c.in_ok-larger-in-Ok.ensures.ok ∙ c.in-Ok.ensures.joined)
