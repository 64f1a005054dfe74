use Rattle.std.proofs.Common.{◌≡◌, ℕ, ◌+◌, false, List, [], ◌++◌, map, drop, ap, subst, arith}
use Rattle.std.specs.Prelude.{flat_map}
use Rattle.std.specs.Arc.{arc_value}
use Rattle.std.specs.List.{AllZip, AllByRecursion}
use Rattle.std.proofs.lemmas.List.{drop_all}
use Rattle.osv_record.specs.Advisories.{Advisory}
use Rattle.history.specs.Lookups.{has_import}
use Rattle.history.specs.Pieces.{ranges_of}
use Rattle.impact_job.specs.Tables.{AreSetsOf}
use Rattle.impact_job.specs.Walks.{IsBegun}
use Rattle.impact_job.proofs.Deciding.{came}
use Rattle.impact_job.proofs.Merging.{front-next}
use Rattle.impact_job.proofs.Listing.{one-kept}
use Rattle.impact_job.proofs.todo.keep_each.Goals as goal

pub loop-advisory-preserved : goal.loop-advisory-preserved
loop-advisory-preserved c = λ b p more later k none w z.
    let m = c.loop-advisory.invariant b p more later k none w z in
    let r : Advisory = arc_value c.advisory-item.result in
    let i : ℕ = c.loop-advisory.advisory-index in
    let rest : List Advisory = map (λ a. arc_value a) (drop (i + 1) c.args.advisories.now) in
    let next = front-next (λ a. arc_value a) c.args.advisories.now i c.advisory-item.result c.loop-advisory-test.true c.advisory-item.is in
    let free = subst (λ (rs : List Advisory). AllByRecursion (λ (s : Advisory). has_import (came b p) s.id ≡ false) rs) next m.0 in
    let begun = one-kept b p c.loop-advisory.todo.items r rest later (subst (λ (rs : List Advisory). IsBegun b p c.loop-advisory.todo.items (flat_map ranges_of rs ++ later)) next m.1) in
    let sets = c.first_sets.ensures b r (rest ++ more) (subst (λ (rs : List Advisory). AllZip (AreSetsOf b) (rs ++ more) c.loop-advisory.own.now) next m.2) in
    (free.1, c.in_ok-keep_one.ensures b p (flat_map ranges_of rest ++ later) k free.0 begun sets.0, sets.1)

pub returns : goal.returns
returns c = λ b p more later k none w z.
    let m = c.loop-advisory.invariant b p more later k none w z in
    let i : ℕ = c.loop-advisory.advisory-index in
    let end : map (λ a. arc_value a) (drop i c.args.advisories.now) ≡ [] = ap (map (λ a. arc_value a)) (drop_all i c.args.advisories.now (omega (arith, c.loop-advisory-test.false))) in (
      subst (λ (rs : List Advisory). IsBegun b p c.loop-advisory.todo.items (flat_map ranges_of rs ++ later)) end m.1,
      subst (λ (rs : List Advisory). AllZip (AreSetsOf b) (rs ++ more) c.loop-advisory.own.now) end m.2,
    )
