use Rattle.std.proofs.Common.{ℕ, List, sym, ap, subst, ◌∙◌}
use Rattle.std.specs.List.{AllZip, list_any}
use Rattle.history.specs.Prefixes.{records}
use Rattle.package_index.specs.Numbers.{number_of}
use Rattle.repo_index.specs.Index.{Kept, AscendFrom, all_seen, has_at, under}
use Rattle.repo_index.specs.Numbers.{AreNumbersOf}
use Rattle.repo_index.proofs.Noting.{found-alike, found-noted, under-ascend}
use Rattle.repo_index.proofs.index.of_numbers.Goals as goal

pub returns : goal.returns
returns c = λ p own all.
    let entries = c.in_ok-noted.noted.items in
    let same = λ (place : _). found-alike c.in_ok-build.field-0 entries c.in_ok-build.ensures.values place in
    let keys = c.args.keys in
    let given = subst (λ (ns : List (List ℕ)). AllZip (AreNumbersOf keys) (records p) ns) (sym c.as_slice.ensures.value) own in
    record {
      ascend = λ repo. subst (λ (ks : List Kept). AscendFrom 0 ks) (sym (same (number_of c.in_ok-sealed.field-0 repo))) (under-ascend (number_of c.in_ok-sealed.field-0 repo) 0 (all_seen entries) c.in_ok-noted.ensures.ascend);
      hits = λ repo commit n i at.
          ap (list_any (has_at n i)) (same (number_of c.in_ok-sealed.field-0 repo) ∙ ap (λ (ks : List (List ℕ)). under (all_seen entries) (number_of ks repo)) c.in_ok-sealed.ensures)
          ∙ found-noted keys (all_seen entries) repo n i ∙ c.in_ok-noted.ensures.hits p keys given all repo commit n i at;
      own = subst (λ (ks : List (List ℕ)). AllZip (AreNumbersOf ks) (records p) c.args.own.items) (sym c.in_ok-sealed.ensures) own;
    }
