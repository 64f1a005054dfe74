use Rattle.std.proofs.Common.{◌≡◌, ℕ, ◌+◌, Bool, ◌&&◌, ◌||◌, eqb, List, ◌++◌, Some, map, sym, ap, subst, ◌∙◌, arith}
use Rattle.std.specs.Prelude.{slice_get}
use Rattle.std.specs.Arc.{arc_value}
use Rattle.std.proofs.lemmas.List.{take_all}
use Rattle.osv_record.specs.Advisories.{Advisory}
use Rattle.history.specs.Prefixes.{records}
use Rattle.impact_job.proofs.Walking.{zip-length}
use Rattle.repo_index.specs.Index.{Noted, AscendTo, all_seen, beside, is_noted}
use Rattle.repo_index.specs.Listing.{hits_on, passes_from}
use Rattle.repo_index.specs.Numbers.{AreNumbersOf}
use Rattle.repo_index.proofs.Added.{noted-more}
use Rattle.repo_index.proofs.Listing.{passes-more}
use Rattle.repo_index.proofs.Noting.{beside-ascend, ascend-further}
use Rattle.repo_index.proofs.Zipped.{partner, there}
use Rattle.repo_index.proofs.noted.noted_of.Goals as goal

pub loop-index-preserved : goal.loop-index-preserved
loop-index-preserved c =
    let k : ℕ = c.loop-index.index in
    let numbers : List ℕ = c.index-own-index.result in
    let sets = map (λ a. arc_value a) c.sets_at.result.now in
    let before : List Noted = all_seen c.loop-index.noted.items in
    let here : slice_get c.args.own.now k ≡ Some numbers = there c.args.own.now k numbers c.loop-index-test.true c.index-own-index.is in
    let more : all_seen c.note.new.noted.items ≡ before ++ beside k numbers sets = c.in_ok-note.ensures ∙ ap (λ (ns : List ℕ). before ++ beside k ns sets) c.as_slice.ensures in
    record {
      hits = λ p keys own all repo commit n i at.
          let f = partner (AreNumbersOf keys) (records p) c.args.own.now k numbers own here in
          ap (λ (es : List Noted). is_noted keys es repo n i) more
          ∙ noted-more p keys repo commit n i k at f.0 before numbers sets f.1.1 (c.sets_at.ensures p (records p) f.0 all f.1.0)
          ∙ ap (λ (b : Bool). b || (hits_on p repo commit f.0 && eqb k i)) (c.loop-index.invariant.hits p keys own all repo commit n i at)
          ∙ sym (passes-more (hits_on p repo commit) (records p) k f.0 f.1.0 i);
      ascend = ascend-further k (k + 1) (all_seen c.note.new.noted.items) (omega arith) (subst (λ (es : List Noted). AscendTo es k) (sym more) (beside-ascend k before numbers sets c.loop-index.invariant.ascend));
    }

pub returns-clause-hits : goal.returns-clause-hits
returns-clause-hits c = λ p keys own all repo commit n i at.
    c.loop-index.invariant.hits p keys own all repo commit n i at
    ∙ ap (λ (rs : List Advisory). passes_from (hits_on p repo commit) 0 rs i)
    (take_all c.loop-index.index (records p) (omega (arith, c.loop-index-test.false, zip-length (AreNumbersOf keys) (records p) c.args.own.now own)))

pub returns-clause-ascend : goal.returns-clause-ascend
returns-clause-ascend c = c.loop-index.invariant.ascend.up
