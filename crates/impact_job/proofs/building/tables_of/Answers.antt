use Rattle.std.proofs.Common.{List, map, ap, sym, subst, ◌∙◌}
use Rattle.std.specs.Arc.{arc_value}
use Rattle.std.specs.List.{AllZip}
use Rattle.std.specs.declared.vec.Vec.{Vec}
use Rattle.history.specs.Prefixes.{records}
use Rattle.history.specs.Pieces.{git_ranges_in}
use Rattle.impact_job.specs.declared.tables.Plan.{Plan}
use Rattle.impact_job.specs.declared.tables.Todo.{Todo}
use Rattle.impact_job.specs.Tables.{HasSet, IsTodoOf, IsMadeFor, repos_seen}
use Rattle.impact_job.proofs.building.tables_of.Goals as goal

pub by_advisory-requires : goal.by_advisory-requires
by_advisory-requires c =
    let whole = c.requires.1.1.whole in
    let todo = c.as_slice-todo.ensures.value ∙ ap (λ (x : Plan). x.todo.items) c.deref.ensures in
    subst (λ (ts : List Todo). AllZip HasSet ts c.as_slice-made.result.now) (sym todo) (subst (λ vs. AllZip HasSet (arc_value c.args.filled.now.plan).todo.items vs) (sym c.as_slice-made.ensures.value) whole)

pub returns-clause-stands : goal.returns-clause-stands
returns-clause-stands c = λ b p x.
    let counts = c.as_slice.ensures.value ∙ ap (λ (y : Plan). y.counts.items) c.deref-2.ensures ∙ x.plan.counts in
    let todo = c.as_slice-todo.ensures.value ∙ ap (λ (y : Plan). y.todo.items) c.deref.ensures in
    record {
      upto = ap (λ (y : Plan). y.upto) c.deref-3.ensures ∙ x.plan.upto;
      kept = ap (λ (v : Vec _ _). map (λ a. arc_value a) v.items) (c.in_ok-try_clone.ensures ∙ ap (λ (y : Plan). arc_value y.records) c.deref-4.ensures) ∙ x.plan.kept;
      grown = ap (λ (v : Vec _ _). repos_seen v.items) (c.in_ok-try_clone-2.ensures ∙ ap (λ (y : Plan). arc_value y.repos) c.deref-5.ensures) ∙ x.plan.grown;
      sets =
          c.in_ok-sets.ensures b p (records p) counts (subst (λ (ts : List Todo). AllZip (IsTodoOf b p) (git_ranges_in p) ts) (sym todo) x.plan.todo)
          (subst (λ vs. AllZip (IsMadeFor p) (git_ranges_in p) vs) (sym c.as_slice-made.ensures.value) x.made);
    }
