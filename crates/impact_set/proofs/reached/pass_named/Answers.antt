use Rattle.std.proofs.Common.{◌≡◌, ◌+◌, ℕ, List, not, ◌&&◌, Bool, sym, ap, subst, ◌∙◌}
use Rattle.osv_prim.specs.declared.event.EventKind.TheVariants.{Introduced, Fixed, LastAffected}
use Rattle.osv_prim.specs.Graphs.{id_at, is_named}
use Rattle.impact_set.specs.Passing.{has_number, AreHeld}
use Rattle.impact_set.specs.Standing.{reaches_row}
use Rattle.impact_set.proofs.Forward.{row-is, onward-more, held-more}
use Rattle.impact_set.proofs.reached.pass_named.Goals as goal

pub returns-clause-marks : goal.returns-clause-marks
returns-clause-marks g c =
    let graph = c.args.graph.now in
    let events = c.args.events.now in
    let legal = c.len.ensures.legal in
    let n = c.args.number in
    let lt = c.requires.within in
    let introduced : c.is_among-introduced.result ≡ is_named Introduced events (id_at graph n) = c.is_among-introduced.ensures ∙ ap (λ (xs : List ℕ). has_number xs n) c.as_slice.ensures ∙ c.requires.named.introduced.named n lt in
    let fixed : c.is_among-fixed.result ≡ is_named Fixed events (id_at graph n) = c.is_among-fixed.ensures ∙ ap (λ (xs : List ℕ). has_number xs n) c.as_slice-2.ensures ∙ c.requires.named.fixed.named n lt in
    let last : c.is_among-last.result ≡ is_named LastAffected events (id_at graph n) = c.is_among-last.ensures ∙ ap (λ (xs : List ℕ). has_number xs n) c.as_slice-3.ensures ∙ c.requires.named.last_affected.named n lt in
    let reached : c.is_reached-reached.result ≡ reaches_row events graph n =
    c.is_reached-reached.ensures
    ∙ row-is events graph legal n lt c.parents_at-parents.result.now c.parents_at-parents.ensures.parents c.parents_at-parents.ensures.earlier c.args.marks.now c.requires.marks c.args.from_roots c.requires.roots
    c.is_among-fixed.result c.is_among-introduced.result fixed introduced in
    onward-more events graph legal n c.args.marks.now c.requires.marks c.in_ok-onward.onward
    (c.in_ok-onward.ensures.onward ∙ ap (λ (b : Bool). b && not c.is_among-last.result) reached ∙ ap (λ (b : Bool). reaches_row events graph n && not b) last)
    c.set_if.new.self c.set_if.ensures.size c.set_if.ensures.each

pub returns-clause-held : goal.returns-clause-held
returns-clause-held g c =
    let graph = c.args.graph.now in
    let events = c.args.events.now in
    let legal = c.len.ensures.legal in
    let n = c.args.number in
    let lt = c.requires.within in
    let introduced : c.is_among-introduced.result ≡ is_named Introduced events (id_at graph n) = c.is_among-introduced.ensures ∙ ap (λ (xs : List ℕ). has_number xs n) c.as_slice.ensures ∙ c.requires.named.introduced.named n lt in
    let fixed : c.is_among-fixed.result ≡ is_named Fixed events (id_at graph n) = c.is_among-fixed.ensures ∙ ap (λ (xs : List ℕ). has_number xs n) c.as_slice-2.ensures ∙ c.requires.named.fixed.named n lt in
    let last : c.is_among-last.result ≡ is_named LastAffected events (id_at graph n) = c.is_among-last.ensures ∙ ap (λ (xs : List ℕ). has_number xs n) c.as_slice-3.ensures ∙ c.requires.named.last_affected.named n lt in
    let reached : c.is_reached-reached.result ≡ reaches_row events graph n =
    c.is_reached-reached.ensures
    ∙ row-is events graph legal n lt c.parents_at-parents.result.now c.parents_at-parents.ensures.parents c.parents_at-parents.ensures.earlier c.args.marks.now c.requires.marks c.args.from_roots c.requires.roots
    c.is_among-fixed.result c.is_among-introduced.result fixed introduced in
    subst (AreHeld events graph (n + 1)) (sym c.in_ok-onward.ensures.held)
    (held-more events graph legal n c.args.held.now.items c.requires.held c.is_reached-reached.result c.is_among-last.result reached last)
