use Rattle.std.proofs.Common.{◌≡◌, ℕ, Bool, cond, false, List, [], length, sym, ap, subst, ◌∙◌}
use Rattle.std.specs.Prelude.{All}
use Rattle.std.specs.List.{flat_map}
use Rattle.osv_record.specs.Advisories.{Advisory, Entry, git_ranges, has_repos}
use Rattle.history.specs.Pieces.{ranges_of}
use Rattle.impact_job.proofs.Grouping.{range-count}
use Rattle.impact_job.proofs.Walking.{none-old}
use Rattle.repo_index.specs.Numbers.{AreNumbers, AreNumbersOf, HasRepos, entry_keys}
use Rattle.repo_index.proofs.Keeping.{of-none, of-withdrawn}
use Rattle.repo_index.proofs.numbering.read.Goals as goal

pub returns-then-is_empty-clause-numbers : goal.returns-then-is_empty-clause-numbers
returns-then-is_empty-clause-numbers c = λ p sets.
    let r : Advisory = c.args.advisory.now in
    let none : ranges_of r ≡ [] = none-old p (ranges_of r) c.args.sets.now (sym c.is_empty.ensures ∙ c.if-is_empty.true) sets in
    let count : git_ranges r.affected ≡ 0 = sym (range-count r) ∙ ap length none in
    let entries : c.advisory.inside.affected ≡ r.affected = ap (λ (y : Advisory). y.affected) c.advisory.view_is in
    let free : has_repos r.affected ≡ false =
    subst (λ (es : List Entry). has_repos es ≡ false) entries (c.advisory.invariant.3 (c.advisory.invariant.2 ∙ ap git_ranges entries ∙ count))
    in
    subst (λ (own : List ℕ). AreNumbersOf c.args.keys.now r own) (sym c.new.ensures) (of-none c.args.keys.now r none free)

pub returns-then-advisory-clause-numbers : goal.returns-then-advisory-clause-numbers
returns-then-advisory-clause-numbers c = λ p sets.
    let r : Advisory = c.args.advisory.now in
    subst (λ (own : List ℕ). AreNumbersOf c.args.keys.now r own) (sym c.new-then-advisory.ensures) (of-withdrawn c.args.keys.now r (ap (λ (y : Advisory). y.withdrawn) (sym c.advisory.view_is) ∙ c.if-advisory.true))

pub returns-clause-numbers : goal.returns-clause-numbers
returns-clause-numbers c = λ p sets.
    let r : Advisory = c.args.advisory.now in
    let new = c.read_entries.new.keys in
    let entries : c.as_slice.result.now ≡ r.affected = c.as_slice.ensures ∙ ap (λ (y : Advisory). y.affected) c.advisory.view_is in
    let kept : r.withdrawn ≡ false = ap (λ (y : Advisory). y.withdrawn) (sym c.advisory.view_is) ∙ c.if-advisory.false in
    let numbers = c.in_ok-read_entries.ensures.numbers [] (subst (λ (own : List ℕ). AreNumbers c.args.keys.now [] own) (sym c.in_ok-own.ensures.items) tt) in
    record {
      numbers =
          subst (λ (own : List ℕ). AreNumbers new (cond r.withdrawn [] (flat_map entry_keys r.affected)) own) (sym c.from_vec.ensures)
          (subst (λ (w : Bool). AreNumbers new (cond w [] (flat_map entry_keys r.affected)) c.read_entries.new.own.items) (sym kept)
          (subst (λ (es : List Entry). AreNumbers new (flat_map entry_keys es) c.read_entries.new.own.items) entries numbers));
      repos = λ is. subst (λ (es : List Entry). All HasRepos es) entries c.in_ok-read_entries.ensures.repos;
    }
