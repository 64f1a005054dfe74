-- The members of a set that stands for a range and a graph.
use Rattle.std.proofs.Common.{◌≡◌, ℕ, ◌<◌, Bool, true, false, ◌&&◌, List, length, get_or, refl, ap, ◌∙◌}
use Rattle.osv_prim.specs.declared.oid.CommitRow.{CommitRow}
use Rattle.osv_prim.specs.declared.event.Event.{Event}
use Rattle.osv_prim.specs.Graphs.{id_at}
use Rattle.git_range.specs.Affected.{is_affected}
use Rattle.impact_set.specs.Standing.{Known, StandsFor, is_member, reaches_row, lets_row_through}

both-ways : (a b : Bool) → (a && b) ≡ (b && a)
both-ways true true = refl
both-ways true false = refl
both-ways false true = refl
both-ways false false = refl

pub member-affected : (events : List Event) (graph : List CommitRow) (known : Known) → StandsFor events graph known → (k : ℕ) → k < length graph
    → is_member known k ≡ is_affected graph events (id_at graph k)
unfolding is_affected
member-affected events graph known s k lt =
    ap (λ (b : Bool). b && get_or known.let_through k false) (s.reached.each k lt)
    ∙ ap (λ (b : Bool). reaches_row events graph k && b) (s.let_through.each k lt)
    ∙ both-ways (reaches_row events graph k) (lets_row_through events graph k)
