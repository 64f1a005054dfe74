use Rattle.std.proofs.Common.{◌≡◌, ℕ, ◌+◌, List, [], ◌∷◌, ◌++◌, length, take, Some, sym, ap, subst, ◌∙◌, arith}
use Rattle.std.specs.Prelude.{IfSome, slice_get}
use Rattle.std.specs.Arc.{arc_value}
use Rattle.std.specs.List.{AllZip}
use Rattle.std.proofs.lemmas.List.{length-append, length-map, take_all}
use Rattle.osv_record.specs.Advisories.{Advisory}
use Rattle.history.specs.Prefixes.{records}
use Rattle.impact_job.specs.Tables.{AreSetsOf}
use Rattle.impact_job.proofs.Walking.{zip-push}
use Rattle.repo_index.specs.Numbers.{AreNumbersOf}
use Rattle.repo_index.proofs.Keeping.{all-kept}
use Rattle.repo_index.proofs.Zipped.{take-next, there-seen}
use Rattle.repo_index.proofs.numbering.numbers_of_all.Goals as goal

pub loop-place-preserved : goal.loop-place-preserved
loop-place-preserved c =
    let k : ℕ = c.loop-place.place in
    let item = c.index-advisories-place.result in
    let r : Advisory = arc_value item in
    let own = c.in_ok-own.own in
    let new = c.numbers_of.new.keys in
    record {
      numbers = λ p old is all same base.
          let here : slice_get (records p) k ≡ Some r =
          subst (λ (rs : List Advisory). slice_get rs k ≡ Some r) is (there-seen (λ a. arc_value a) c.args.advisories.now k item c.loop-place-test.true c.index-advisories-place.is)
          in
          let before = c.loop-place.invariant.numbers p old is all same base in
          let now = all-kept c.args.keys.now c.loop-place.keys c.loop-place.invariant.kept old c.args.base.now base in
          let kept = c.kept_at-kept.ensures c.loop-place.keys old (records p) r same now here in
          let made =
          c.in_ok-own.ensures.numbers p (subst (λ (x : Advisory). AreSetsOf p x c.sets_at.result.now) (sym c.deref.ensures) (c.sets_at.ensures p (records p) r all here))
          (subst (λ (x : Advisory). IfSome c.kept_at-kept.result (λ own. AreNumbersOf c.loop-place.keys x own.now)) (sym c.deref.ensures) kept)
          in
          subst (λ (all : List (List ℕ)). AllZip (AreNumbersOf new) (take (k + 1) (records p)) all) (sym c.in_ok-push.ensures.items)
          (subst (λ (rs : List Advisory). AllZip (AreNumbersOf new) rs (c.loop-place.all.items ++ own ∷ [])) (sym (take-next (records p) k r here))
          (zip-push (AreNumbersOf new) (take k (records p)) c.loop-place.all.items r own
          (all-kept c.loop-place.keys new c.in_ok-own.ensures.kept (take k (records p)) c.loop-place.all.items before) (subst (λ (x : Advisory). AreNumbersOf new x own) c.deref.ensures made)));
      kept = λ key n is. c.in_ok-own.ensures.kept key n (c.loop-place.invariant.kept key n is);
      count = ap length c.in_ok-push.ensures.items ∙ length-append c.loop-place.all.items (own ∷ []) ∙ ap (λ (n : ℕ). n + 1) c.loop-place.invariant.count;
    }

pub returns-clause-numbers : goal.returns-clause-numbers
returns-clause-numbers c = λ p old is all same base.
    let long : length (records p) ≡ length c.args.advisories.now = ap length (sym is) ∙ length-map c.args.advisories.now (λ a. arc_value a) in
    subst (λ (rs : List Advisory). AllZip (AreNumbersOf c.loop-place.keys) rs c.loop-place.all.items) (take_all c.loop-place.place (records p) (omega (arith, c.loop-place-test.false, long)))
    (c.loop-place.invariant.numbers p old is all same base)
