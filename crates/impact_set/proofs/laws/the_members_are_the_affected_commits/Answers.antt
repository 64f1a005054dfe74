use Rattle.std.proofs.Common.{◌↔◌, IsTrue, Bool, sym, subst}
use Rattle.osv_prim.specs.Graphs.{id_at, IsAffected}
use Rattle.git_range.proofs.Affecting.{affected_by_walks}
use Rattle.impact_set.proofs.Members.{member-affected}
use Rattle.impact_set.proofs.laws.the_members_are_the_affected_commits.Goals as goal

pub returns : goal.returns
returns c graph legal events known stands k lt =
    subst (λ (b : Bool). IsTrue b ↔ IsAffected graph events (id_at graph k)) (sym (member-affected events graph known stands k lt))
    (affected_by_walks graph legal events (id_at graph k))
