-- The hits of a commit among the imports that may hit one.
use Rattle.std.proofs.Common.{◌≡◌, ℕ, Bool, true, false, not, ◌&&◌, cond, List, [], ◌∷◌, Option, Some, None, map, refl, sym, ap, ◌∙◌}
use Rattle.std.specs.Prelude.{filter, is_some}
use Rattle.std.specs.List.{list_any}
use Rattle.std.specs.Option.{option_map_or}
use Rattle.std.proofs.lemmas.Bool.{or_parts, or_from, true≢false}
use Rattle.osv_prim.specs.declared.package.PackageKey.{PackageKey}
use Rattle.osv_record.specs.Advisories.{Extent, Entry, Advisory}
use Rattle.evaluate.specs.Hits.{Repo, affects_commit, git_range_hit, git_entry_hit, graph_of, ids_of, is_hit, is_of_package}
use Rattle.evaluate.specs.Kept.{commit_subject, entries_by_id, has_git_range, has_repo, ids_of_entries, may_hit}

and_false : (a b : Bool) → b ≡ false → (a && b) ≡ false
and_false true b e = e
and_false false b e = refl

module _ (repos : List Repo) (commit : List ℕ) (asked : Option PackageKey) where
  -- what hits the commit in a range
  without_repo : (x : Extent) (repo : Option (List ℕ)) → is_some repo ≡ false → option_map_or (λ key. option_map_or (affects_commit commit x.events) (graph_of repos key) false) repo false ≡ false
  without_repo x None e = refl
  without_repo x (Some key) e = absurd cc

  in_no_range : (ranges : List Extent) → has_repo ranges ≡ false → list_any (git_range_hit repos commit) ranges ≡ false
  in_no_range [] e = refl
  in_no_range (x ∷ xs) e =
      let p = or_parts (is_some x.repo) (has_repo xs) e in
      or_from (git_range_hit repos commit x) (list_any (git_range_hit repos commit) xs) (without_repo x x.repo p.0) (in_no_range xs p.1)

  in_no_entry : (entries : List Entry) → has_git_range entries ≡ false → list_any (git_entry_hit repos commit asked) entries ≡ false
  in_no_entry [] e = refl
  in_no_entry (x ∷ xs) e =
      let p = or_parts (has_repo x.ranges) (has_git_range xs) e in
      or_from (git_entry_hit repos commit asked x) (list_any (git_entry_hit repos commit asked) xs)
      (and_false (is_of_package asked x.«package») (list_any (git_range_hit repos commit) x.ranges) (in_no_range x.ranges p.0)) (in_no_entry xs p.1)

  step : (h : Advisory → Bool) (x : Advisory) (xs : List Advisory) (w g a : Bool) → (g ≡ false → a ≡ false) → list_any (git_entry_hit repos commit asked) x.affected ≡ a
      → ids_of_entries repos commit asked (map entries_by_id (filter may_hit xs)) ≡ ids_of (filter h xs)
      → ids_of_entries repos commit asked (map entries_by_id (cond (not w && g) (x ∷ filter may_hit xs) (filter may_hit xs))) ≡ ids_of (cond (not w && a) (x ∷ filter h xs) (filter h xs))
  step h x xs true g a none e later = later
  step h x xs false true true none e later = rw e (ap (λ (t : List (List ℕ)). x.id ∷ t) later)
  step h x xs false true false none e later = rw e later
  step h x xs false false true none e later = absurd (true≢false (none refl))
  step h x xs false false false none e later = later

  among : (h : Advisory → Bool) → ((x : Advisory) → h x ≡ (not x.withdrawn && list_any (git_entry_hit repos commit asked) x.affected)) → (xs : List Advisory)
      → ids_of_entries repos commit asked (map entries_by_id (filter may_hit xs)) ≡ ids_of (filter h xs)
  among h same [] = refl
  among h same (x ∷ xs) =
      step h x xs x.withdrawn (has_git_range x.affected) (list_any (git_entry_hit repos commit asked) x.affected) (in_no_entry x.affected) refl (among h same xs)
      ∙ sym (ap (λ (b : Bool). ids_of (cond b (x ∷ filter h xs) (filter h xs))) (same x))

pub hits_among_kept : (repos : List Repo) (commit : List ℕ) (asked : Option PackageKey) (xs : List Advisory)
    → ids_of_entries repos commit asked (map entries_by_id (filter may_hit xs)) ≡ ids_of (filter (is_hit repos (commit_subject commit asked)) xs)
hits_among_kept repos commit None xs = among repos commit None (is_hit repos (commit_subject commit None)) (λ x. refl) xs
hits_among_kept repos commit (Some k) xs = among repos commit (Some k) (is_hit repos (commit_subject commit (Some k))) (λ x. refl) xs
