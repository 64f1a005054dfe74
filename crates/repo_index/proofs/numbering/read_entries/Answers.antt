use Rattle.std.proofs.Common.{◌≡◌, ℕ, ◌+◌, List, [], ◌∷◌, ◌++◌, take, sym, ap, subst, ◌∙◌, arith, append-nil}
use Rattle.std.specs.Prelude.{All}
use Rattle.std.specs.List.{flat_map}
use Rattle.std.proofs.lemmas.List.{take_all}
use Rattle.std.proofs.lemmas.List.Elements.{All-push, All-nil}
use Rattle.osv_record.specs.Advisories.{Entry, Extent}
use Rattle.repo_index.specs.Numbers.{AreNumbers, HasRepo, HasRepos, entry_keys, range_keys}
use Rattle.repo_index.proofs.Keeping.{keys-more}
use Rattle.repo_index.proofs.Zipped.{take-next, there}
use Rattle.repo_index.proofs.numbering.read_entries.Goals as goal

pub loop-entry-init : goal.loop-entry-init
loop-entry-init c =
    record {
      numbers = λ before are. subst (λ (ks : List (List ℕ)). AreNumbers c.args.keys.now ks c.args.own.now.items) (sym (append-nil before)) are;
      kept = λ key n is. is;
      repos = All-nil HasRepos;
    }

pub loop-entry-preserved : goal.loop-entry-preserved
loop-entry-preserved c =
    let k : ℕ = c.loop-entry.entry-index in
    let entries : List Entry = c.args.entries.now in
    let a : Entry = c.entry-item.result in
    let own : c.as_slice.result.now ≡ a.ranges = c.as_slice.ensures ∙ ap (λ (y : Entry). y.ranges) c.entry.view_is in
    let next : take (k + 1) entries ≡ take k entries ++ a ∷ [] = take-next entries k a (there entries k a c.loop-entry-test.true c.entry-item.is) in
    record {
      numbers = λ before are.
          subst (λ (ks : List (List ℕ)). AreNumbers c.read_ranges.new.keys ks c.read_ranges.new.own.items) (keys-more entry_keys before (take k entries) a (take (k + 1) entries) next)
          (subst (λ (xs : List Extent). AreNumbers c.read_ranges.new.keys ((before ++ flat_map entry_keys (take k entries)) ++ flat_map range_keys xs) c.read_ranges.new.own.items) own
          (c.in_ok-read_ranges.ensures.numbers (before ++ flat_map entry_keys (take k entries)) (c.loop-entry.invariant.numbers before are)));
      kept = λ key n is. c.in_ok-read_ranges.ensures.kept key n (c.loop-entry.invariant.kept key n is);
      repos =
          subst (λ (es : List Entry). All HasRepos es) (sym next)
          (All-push HasRepos (take k entries) a c.loop-entry.invariant.repos (subst (λ (xs : List Extent). All HasRepo xs) own c.in_ok-read_ranges.ensures.repos));
    }

pub returns-clause-numbers : goal.returns-clause-numbers
returns-clause-numbers c = λ before are.
    subst (λ (es : List Entry). AreNumbers c.loop-entry.keys (before ++ flat_map entry_keys es) c.loop-entry.own.items)
    (take_all c.loop-entry.entry-index c.args.entries.now (omega (arith, c.loop-entry-test.false))) (c.loop-entry.invariant.numbers before are)

pub returns-clause-repos : goal.returns-clause-repos
returns-clause-repos c = subst (λ (es : List Entry). All HasRepos es) (take_all c.loop-entry.entry-index c.args.entries.now (omega (arith, c.loop-entry-test.false))) c.loop-entry.invariant.repos
