-- The hits of the newest snapshot, where it is of all imports.
use Rattle.std.proofs.Common.{rules, ◌≡◌, ℕ, suc, ◌+◌, ◌<◌, ◌≤◌, false, List, [], ◌∷◌, length, take, map, filter, get_or, nat_lt, refl, sym, ap, ◌∙◌, arith}
use Rattle.std.specs.Prelude.{None, sum_by}
use Rattle.std.specs.Arc.{arc_value}
use Rattle.std.proofs.lemmas.List.{take_all, length-map}
use Rattle.osv_prim.specs.declared.oid.CommitRow.{CommitRow}
use Rattle.osv_prim.specs.declared.subject.Subject.{Subject}
use Rattle.osv_prim.specs.Graphs.{joined}
use Rattle.osv_record.specs.Advisories.{Advisory}
use Rattle.evaluate.specs.Hits.{Repo, hits}
use Rattle.history.specs.declared.past.Past.{Past}
use Rattle.history.specs.Entries.{imports, newest, snap}
use Rattle.history.specs.Prefixes.{advisories, graphs, graph}
use Rattle.history.proofs.Prefixes.{advisories-imports, graphs-imports}
use Rattle.book_model.specs.State.{State, published}
use Rattle.snapshot.specs.declared.page.Page as kept
use Rattle.snapshot.specs.Pages.{page, page_seen, is_above, hits_above, cut}
use Rattle.drill.specs.Imported.{Has, IsPublished, drill_key}
use Rattle.std.proofs.lemmas.List.Sums.{sum_by_more}
use Rattle.osv_prim.specs.declared.subject.Subject.TheVariants.{Commit}
use Rattle.drill_input.specs.Questions.{package_question}
use Rattle.drill.specs.Drilled.{all_hits, commit_hits, package_hits}

all_above : (xs : List Advisory) → filter (is_above None) xs ≡ xs
all_above [] = refl
all_above (x ∷ xs) = ap (λ (ys : List Advisory). x ∷ ys) (all_above xs)

of_all : (s : State) (a : List Advisory) (rows : List CommitRow) (subject : Subject) → IsPublished s → Has s a (drill_key ∷ []) rows
    → hits_above (snap s.history (newest s.history)) subject None ≡ hits a ((drill_key, joined [] rows) ∷ []) subject
of_all s a rows subject done h =
    let whole : snap s.history (newest s.history) ≡ imports s.history = take_all (published s.history) (imports s.history) done in
    let repos : graphs (imports s.history) ≡ (drill_key, joined [] rows) ∷ [] =
    graphs-imports s.history ∙ ap (λ (ks : List (List ℕ)). map (λ (k : List ℕ). (k, graph s.history k)) ks) h.repos ∙ ap (λ (g : List CommitRow). (drill_key, g) ∷ []) h.its_graph in
    ap (λ (p : List Past). hits_above p subject None) whole ∙ all_above (hits (advisories (imports s.history)) (graphs (imports s.history)) subject)
    ∙ ap (λ (xs : List Advisory). hits xs (graphs (imports s.history)) subject) (advisories-imports s.history ∙ h.came)
    ∙ ap (λ (rs : List Repo). hits a rs subject) repos

not_more : (size n : ℕ) → nat_lt size n ≡ false → n ≤ size
not_more size n e = search (rules, arith)

pub counted : (s : State) (a : List Advisory) (rows : List CommitRow) (subject : Subject) (found : kept.Page) → IsPublished s → Has s a (drill_key ∷ []) rows → found.more ≡ false
    → page_seen found ≡ page (snap s.history (newest s.history)) subject None s.settings.page → length found.found.items ≡ all_hits a rows subject
unfolding all_hits
counted s a rows subject found done h last is =
    let all : List Advisory = hits a ((drill_key, joined [] rows) ∷ []) subject in
    let size : ℕ = s.settings.page in
    let seen_is : page_seen found ≡ cut size all = is ∙ ap (λ (xs : List Advisory). cut size xs) (of_all s a rows subject done h) in
    let few : length all ≤ size = not_more size (length all) (sym (ap (λ p. p.more) seen_is) ∙ last) in
    sym (length-map found.found.items (λ x. arc_value x)) ∙ ap (λ p. length p.found) seen_is ∙ ap (λ (xs : List Advisory). length xs) (take_all size all few)

-- ---- sums

pub no-package : (a : List Advisory) (rows : List CommitRow) → 0 ≡ package_hits 0 a rows
unfolding package_hits
no-package a rows = refl

pub package-more : (n before found now : ℕ) (a : List Advisory) (rows : List CommitRow) → before ≡ package_hits n a rows → found ≡ all_hits a rows (package_question n) → now ≡ before + found → now ≡ package_hits (n + 1) a rows
unfolding package_hits
package-more n before found now a rows p q r =
    r ∙ ap (λ (k : ℕ). k + found) p ∙ ap (λ (k : ℕ). package_hits n a rows + k) q ∙ ap (λ (k : ℕ). package_hits k a rows) (next n)
  where
    next : (n : ℕ) → suc n ≡ n + 1
    next n = omega arith

pub no-commit : (a : List Advisory) (rows : List CommitRow) → 0 ≡ commit_hits [] a rows
unfolding commit_hits
no-commit a rows = refl

pub commit-more : (ids : List (List ℕ)) (i : ℕ) (id : List ℕ) (before found now : ℕ) (a : List Advisory) (rows : List CommitRow) → i < length ids → id ≡ get_or ids i id → before ≡ commit_hits (take i ids) a rows → found ≡ all_hits a rows (Commit id)
    → now ≡ before + found → now ≡ commit_hits (take (i + 1) ids) a rows
unfolding commit_hits
commit-more ids i id before found now a rows lt is p q r =
    r ∙ ap (λ (k : ℕ). k + found) p ∙ ap (λ (k : ℕ). sum_by (λ x. all_hits a rows (Commit x)) (take i ids) + k) (q ∙ ap (λ (x : List ℕ). all_hits a rows (Commit x)) is)
    ∙ sym (sum_by_more (λ x. all_hits a rows (Commit x)) ids i id lt)
