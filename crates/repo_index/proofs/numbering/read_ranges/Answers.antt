use Rattle.std.proofs.Common.{◌≡◌, ℕ, ◌+◌, List, [], ◌∷◌, ◌++◌, take, sym, subst, arith, append-nil}
use Rattle.std.specs.Prelude.{All}
use Rattle.std.specs.List.{flat_map}
use Rattle.std.proofs.lemmas.List.{take_all}
use Rattle.std.proofs.lemmas.List.Elements.{All-push, All-nil}
use Rattle.osv_record.specs.Advisories.{Extent}
use Rattle.repo_index.specs.Numbers.{AreNumbers, HasRepo, range_keys}
use Rattle.repo_index.proofs.Keeping.{keys-more}
use Rattle.repo_index.proofs.Zipped.{take-next, there}
use Rattle.repo_index.proofs.numbering.read_ranges.Goals as goal

pub loop-range-init : goal.loop-range-init
loop-range-init c =
    record {
      numbers = λ before are. subst (λ (ks : List (List ℕ)). AreNumbers c.args.keys.now ks c.args.own.now.items) (sym (append-nil before)) are;
      kept = λ key n is. is;
      repos = All-nil HasRepo;
    }

pub loop-range-preserved : goal.loop-range-preserved
loop-range-preserved c =
    let k : ℕ = c.loop-range.range-index in
    let ranges : List Extent = c.args.ranges.now in
    let x : Extent = c.range-item.result in
    let next : take (k + 1) ranges ≡ take k ranges ++ x ∷ [] = take-next ranges k x (there ranges k x c.loop-range-test.true c.range-item.is) in
    record {
      numbers = λ before are.
          subst (λ (ks : List (List ℕ)). AreNumbers c.read_range.new.keys ks c.read_range.new.own.items) (keys-more range_keys before (take k ranges) x (take (k + 1) ranges) next)
          (c.in_ok-read_range.ensures.numbers (before ++ flat_map range_keys (take k ranges)) (c.loop-range.invariant.numbers before are));
      kept = λ key n is. c.in_ok-read_range.ensures.kept key n (c.loop-range.invariant.kept key n is);
      repos = subst (λ (xs : List Extent). All HasRepo xs) (sym next) (All-push HasRepo (take k ranges) x c.loop-range.invariant.repos c.in_ok-read_range.ensures.repo);
    }

pub returns-clause-numbers : goal.returns-clause-numbers
returns-clause-numbers c = λ before are.
    subst (λ (xs : List Extent). AreNumbers c.loop-range.keys (before ++ flat_map range_keys xs) c.loop-range.own.items)
    (take_all c.loop-range.range-index c.args.ranges.now (omega (arith, c.loop-range-test.false))) (c.loop-range.invariant.numbers before are)

pub returns-clause-repos : goal.returns-clause-repos
returns-clause-repos c = subst (λ (xs : List Extent). All HasRepo xs) (take_all c.loop-range.range-index c.args.ranges.now (omega (arith, c.loop-range-test.false))) c.loop-range.invariant.repos
