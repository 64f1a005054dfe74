use Rattle.std.proofs.Common.{◌≡◌, ℕ, ◌+◌, List, [], ◌∷◌, ◌++◌, get_or, take, drop, sym, subst, arith}
use Rattle.std.specs.Prelude.{flat_map}
use Rattle.std.specs.List.{AllZip}
use Rattle.std.proofs.lemmas.List.{take_all}
use Rattle.osv_record.specs.Advisories.{Advisory}
use Rattle.history.specs.Pieces.{ranges_of}
use Rattle.impact_job.specs.declared.tables.Todo.{Todo}
use Rattle.impact_job.specs.Tables.{AreSetsOf, IsTodoOf, IsMadeFor, HasSet}
use Rattle.impact_job.proofs.Walking.{zip-push}
use Rattle.impact_job.proofs.Grouping.{grouped-more, both-take, both-drop}
use Rattle.impact_job.proofs.Counting.{counted-at, as-many}
use Rattle.impact_job.proofs.building.by_advisory.Goals as goal

pub sets_of-requires : goal.sets_of-requires
sets_of-requires c =
    let m = c.loop-ranges.invariant in
    let n : ℕ = get_or c.args.counts.now c.loop-ranges.ranges-index 0 in
    subst (λ (ts : List Todo). AllZip HasSet ts c.parted-in-loop-ranges.result.0.now) (sym c.parted.ensures.first)
    (subst (λ vs. AllZip HasSet (take n c.loop-ranges.rest.now) vs) (sym c.parted-in-loop-ranges.ensures.first) (both-take HasSet n c.loop-ranges.rest.now c.loop-ranges.rest_made.now m.0))

pub loop-ranges-preserved : goal.loop-ranges-preserved
loop-ranges-preserved c =
    let m = c.loop-ranges.invariant in
    let n : ℕ = get_or c.args.counts.now c.loop-ranges.ranges-index 0 in
    let i : ℕ = c.loop-ranges.ranges-index in
    let has : AllZip HasSet c.parted.result.1.now c.parted-in-loop-ranges.result.1.now =
    subst (λ (ts : List Todo). AllZip HasSet ts c.parted-in-loop-ranges.result.1.now) (sym c.parted.ensures.later)
    (subst (λ vs. AllZip HasSet (drop n c.loop-ranges.rest.now) vs) (sym c.parted-in-loop-ranges.ensures.later) (both-drop HasSet n c.loop-ranges.rest.now c.loop-ranges.rest_made.now m.0))
    in (
      has,
      λ b p rs counts todo made.
          let at = m.1 b p rs counts todo made in
          let own = counted-at rs c.args.counts.now i 0 counts c.loop-ranges-test.true in
          let r : Advisory = own.item in
          let rest : List Advisory = drop (i + 1) rs in
          let parts = grouped-more (IsTodoOf b p) r rest c.loop-ranges.rest.now n own.its (subst (λ (us : List Advisory). AllZip (IsTodoOf b p) (flat_map ranges_of us) c.loop-ranges.rest.now) own.next at.1.0) in
          let sets = grouped-more (IsMadeFor p) r rest c.loop-ranges.rest_made.now n own.its (subst (λ (us : List Advisory). AllZip (IsMadeFor p) (flat_map ranges_of us) c.loop-ranges.rest_made.now) own.next at.1.1) in
          let its : AreSetsOf p r c.in_ok-sets_of.field-0 =
          c.in_ok-sets_of.ensures b p (ranges_of r) (subst (λ (ts : List Todo). AllZip (IsTodoOf b p) (ranges_of r) ts) (sym c.parted.ensures.first) parts.0)
          (subst (λ vs. AllZip (IsMadeFor p) (ranges_of r) vs) (sym c.parted-in-loop-ranges.ensures.first) sets.0)
          in (
            subst (λ (us : List Advisory). AllZip (AreSetsOf p) us c.push.new.self.items) (sym own.more)
                (subst (λ (gs : List (List _)). AllZip (AreSetsOf p) (take i rs ++ r ∷ []) gs) (sym c.in_ok-push.ensures.items) (zip-push (AreSetsOf p) (take i rs) c.loop-ranges.grouped.items r c.in_ok-sets_of.field-0 at.0 its)),
            (
              subst (λ (ts : List Todo). AllZip (IsTodoOf b p) (flat_map ranges_of rest) ts) (sym c.parted.ensures.later) parts.1,
              subst (λ vs. AllZip (IsMadeFor p) (flat_map ranges_of rest) vs) (sym c.parted-in-loop-ranges.ensures.later) sets.1,
            ),
          ),
    )

pub returns : goal.returns
returns c = λ b p rs counts todo made.
    let i : ℕ = c.loop-ranges.ranges-index in
    let all : take i rs ≡ rs = take_all i rs (omega (arith, as-many rs c.args.counts.now counts, c.loop-ranges-test.false)) in
    subst (λ (us : List Advisory). AllZip (AreSetsOf p) us c.loop-ranges.grouped.items) all (c.loop-ranges.invariant.1 b p rs counts todo made).0
