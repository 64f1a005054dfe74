use Rattle.std.proofs.Common.{◌≡◌, ℕ, ◌<◌, ◌≤◌, ◌++◌, Bool, true, false, not, ◌&&◌, ◌||◌, leb, Bor, List, [], ◌∷◌, All, None, refl, arith, length, map, take, get_or, sym, ap, subst, ◌∙◌, length-append}
use Rattle.std.specs.Prelude.{Option, option_map, filter, is_some}
use Rattle.std.specs.Arc.{arc_value}
use Rattle.std.specs.List.{AllZip, list_any}
use Rattle.std.specs.declared.vec.Vec.{Vec}
use Rattle.std.proofs.lemmas.Bool.{and_parts}
use Rattle.std.proofs.lemmas.List.{length-map, length-take}
use Rattle.std.proofs.lemmas.List.Elements.{All-take}
use Rattle.std.proofs.lemmas.Result.{IfOk-weaker}
use Rattle.osv_prim.specs.declared.package.PackageKey.{PackageKey}
use Rattle.osv_record.specs.Advisories.{Advisory, Entry}
use Rattle.evaluate.specs.Hits.{Repo, git_hit, git_entry_hit, git_range_hit, is_of_package}
use Rattle.history.specs.Prefixes.{records, graphs}
use Rattle.impact_job.specs.Order.{Ascend}
use Rattle.impact_job.specs.Tables.{AreSetsOf, repos_seen}
use Rattle.impact_job.specs.declared.tables.Tables.{Tables}
use Rattle.impact_job.proofs.Prefixes.{kept-ascend}
use Rattle.repo_index.specs.Listing.{is_git_hit, hit_indexes, indexes_from}
use Rattle.set_hits.specs.Places.{places_of}
use Rattle.snapshot.specs.Pages.{is_above, cut}
use Rattle.snapshot.specs.Subjects.{is_commit_hit}
use Rattle.snapshot.proofs.FirstHits.{looked-at}
use Rattle.snapshot.proofs.Listed.{indexes-end, indexes-fewer, nothing}
use Rattle.snapshot.proofs.snapshot.Snapshot.by_commit.Goals as goal

-- a hit in entries of a package is one whatever the package
any-weaker : {X : Type 0} (p q : X → Bool) → ((x : X) → p x ≡ true → q x ≡ true) → (xs : List X) → list_any p xs ≡ true → list_any q xs ≡ true
any-weaker p q weaker [] h = h
any-weaker p q weaker (x ∷ xs) h = or-weaker (p x) (q x) (list_any p xs) (list_any q xs) (weaker x) (any-weaker p q weaker xs) h
  where
    or-weaker : (a b c d : Bool) → (a ≡ true → b ≡ true) → (c ≡ true → d ≡ true) → (a || c) ≡ true → (b || d) ≡ true
    or-weaker true b c d f g h = ap (λ (x : Bool). x || d) (f refl)
    or-weaker false true c d f g h = refl
    or-weaker false false c d f g h = g h

both : (a b c d : Bool) → (c ≡ true → d ≡ true) → (a && (b && c)) ≡ true → (a && d) ≡ true
both true true c d f h = f h
both true false c d f h = absurd cc
both false b c d f h = absurd cc

whatever : (repos : List Repo) (commit : List ℕ) (asked : Option PackageKey) (r : Advisory) → is_commit_hit repos commit asked r ≡ true → is_commit_hit repos commit None r ≡ true
whatever repos commit asked r hit =
    let parts = and_parts (not r.withdrawn) (git_hit r repos commit asked) hit in
    ap (λ (b : Bool). b && git_hit r repos commit None) parts.0
    ∙ any-weaker (git_entry_hit repos commit asked) (git_entry_hit repos commit None)
    (λ e h. (and_parts (is_of_package asked e.«package») (list_any (git_range_hit repos commit) e.ranges) h).1) r.affected parts.1

pub returns-clause-page : goal.returns-clause-page
returns-clause-page g c = λ p s.
    let commit = c.args.commit.now in
    let asked : Option PackageKey = option_map (λ k. k.now) c.args.asked in
    let after : Option (List ℕ) = option_map (λ id. id.now) c.args.after in
    let h : Advisory → Bool = is_commit_hit (graphs p) commit asked in
    let all : List Advisory = map (λ a. arc_value a) c.as_slice-records.result.now in
    let above : List Advisory = map (λ a. arc_value a) c.all_above-above.result.now in
    let items = c.as_slice-records.ensures.value ∙ ap (λ (v : Vec _ _). v.items) (c.deref-2.ensures ∙ ap (λ (t : Tables). arc_value t.records) c.deref.ensures) in
    let kept : all ≡ records p = ap (map (λ a. arc_value a)) items ∙ s.tables.kept in
    let up : Ascend all = subst (λ (ys : List Advisory). Ascend ys) (sym kept) (kept-ascend p) in
    let front = (c.all_above-above.ensures.last up).0 in
    let whole : all ≡ front ++ above = (c.all_above-above.ensures.last up).1 in
    let long = ap (λ (ys : List Advisory). length ys) whole ∙ length-append front above in
    let start : c.saturating_sub-start.result ≡ length front = omega (arith, c.saturating_sub-start.ensures, long, length-map c.as_slice-records.result.now (λ a. arc_value a), length-map c.all_above-above.result.now (λ a. arc_value a)) in
    let repos : repos_seen c.as_slice.result.now ≡ graphs p =
    ap repos_seen (c.as_slice.ensures.value ∙ ap (λ (v : Vec _ _). v.items) (c.deref-4.ensures ∙ ap (λ (t : Tables). arc_value t.repos) c.deref-3.ensures)) ∙ s.tables.grown
    in
    let found = c.in_ok-places.ensures ∙ ap (λ (gs : List Repo). places_of gs commit) repos in
    let places = ap (map (λ x. (x.0.now, x.1))) c.as_slice-2.ensures.value ∙ found in
    let wanted : List ℕ = filter (λ i. leb (length front) i) (indexes_from (is_git_hit p commit) 0 all) in
    let part = indexes-end (is_git_hit p commit) h (whatever (graphs p) commit asked) nothing front above all whole wanted refl in
    let same : filter (λ i. leb c.saturating_sub-start.result i) (hit_indexes p commit) ≡ wanted =
    ap (λ (n : ℕ). filter (λ i. leb n i) (hit_indexes p commit)) start ∙ ap (λ (ys : List Advisory). filter (λ i. leb (length front) i) (indexes_from (is_git_hit p commit) 0 ys)) (sym kept)
    in
    let few : length wanted ≤ length c.as_slice-records.result.now = omega (arith, part.2, indexes-fewer (is_git_hit p commit) 0 all, length-map c.as_slice-records.result.now (λ a. arc_value a)) in
    let at : ℕ → Advisory = λ i. get_or all i nothing in
    let indexes : c.as_slice-3.result.now ≡ take c.most_of-most.result wanted = c.as_slice-3.ensures.value ∙ c.in_ok-indexes.ensures p commit s.repos places ∙ ap (take c.most_of-most.result) same in
    let within : All (λ i. i < length c.as_slice-records.result.now) c.as_slice-3.result.now =
    subst (λ (is : List ℕ). All (λ i. i < length c.as_slice-records.result.now) is) (sym indexes)
    (All-take (λ i. i < length c.as_slice-records.result.now) c.most_of-most.result wanted (subst (λ (n : ℕ). All (λ i. i < n) wanted) (length-map c.as_slice-records.result.now (λ a. arc_value a)) part.0))
    in
    let pass : All (λ i. is_commit_hit (graphs p) commit None (at i) ≡ true) c.as_slice-3.result.now =
    subst (λ (is : List ℕ). All (λ i. is_commit_hit (graphs p) commit None (at i) ≡ true) is) (sym indexes) (All-take (λ i. is_commit_hit (graphs p) commit None (at i) ≡ true) c.most_of-most.result wanted part.3)
    in
    let sets = subst (λ (xs : List Advisory). AllZip (AreSetsOf p) xs c.as_slice-sets.result.now) (sym kept)
    (subst (λ (ks : List (List _)). AllZip (AreSetsOf p) (records p) ks) (sym (c.as_slice-sets.ensures.value ∙ ap (λ (t : Tables). t.sets.items) c.deref-5.ensures)) s.tables.sets) in
    let given = ap (map (λ x. (x.0.now, x.1))) c.as_slice-4.ensures.value ∙ found in
    let seen-is = looked-at (λ (k : Bor PackageKey). k.now) (graphs p) commit c.args.asked at c.args.size (length c.as_slice-records.result.now) wanted part.3 few in
    let hits : cut c.args.size (filter h (map at c.as_slice-3.result.now)) ≡ cut c.args.size (filter (is_above after) (filter h (records p))) =
    ap (λ (is : List ℕ). cut c.args.size (filter h (map at is))) indexes ∙ ap (λ (n : ℕ). cut c.args.size (filter h (map at (take n wanted)))) c.most_of-most.ensures
    ∙ seen-is
    ∙ ap (cut c.args.size) (part.1 ∙ c.all_above-above.ensures.hits up h ∙ ap (λ (ys : List Advisory). filter (is_above after) (filter h ys)) kept)
    in IfOk-weaker c.first_commit_hits.result _ _ (λ f e. e ∙ hits) (c.first_commit_hits.ensures.page p commit nothing given sets within pass)

pub returns-clause-listed : goal.returns-clause-listed
returns-clause-listed g c = λ p s.
    let commit = c.args.commit.now in
    let asked : Option PackageKey = option_map (λ k. k.now) c.args.asked in
    let after : Option (List ℕ) = option_map (λ id. id.now) c.args.after in
    let h : Advisory → Bool = is_commit_hit (graphs p) commit asked in
    let all : List Advisory = map (λ a. arc_value a) c.as_slice-records.result.now in
    let above : List Advisory = map (λ a. arc_value a) c.all_above-above.result.now in
    let items = c.as_slice-records.ensures.value ∙ ap (λ (v : Vec _ _). v.items) (c.deref-2.ensures ∙ ap (λ (t : Tables). arc_value t.records) c.deref.ensures) in
    let kept : all ≡ records p = ap (map (λ a. arc_value a)) items ∙ s.tables.kept in
    let up : Ascend all = subst (λ (ys : List Advisory). Ascend ys) (sym kept) (kept-ascend p) in
    let front = (c.all_above-above.ensures.last up).0 in
    let whole : all ≡ front ++ above = (c.all_above-above.ensures.last up).1 in
    let long = ap (λ (ys : List Advisory). length ys) whole ∙ length-append front above in
    let start : c.saturating_sub-start.result ≡ length front = omega (arith, c.saturating_sub-start.ensures, long, length-map c.as_slice-records.result.now (λ a. arc_value a), length-map c.all_above-above.result.now (λ a. arc_value a)) in
    let repos : repos_seen c.as_slice.result.now ≡ graphs p =
    ap repos_seen (c.as_slice.ensures.value ∙ ap (λ (v : Vec _ _). v.items) (c.deref-4.ensures ∙ ap (λ (t : Tables). arc_value t.repos) c.deref-3.ensures)) ∙ s.tables.grown
    in
    let found = c.in_ok-places.ensures ∙ ap (λ (gs : List Repo). places_of gs commit) repos in
    let places = ap (map (λ x. (x.0.now, x.1))) c.as_slice-2.ensures.value ∙ found in
    let wanted : List ℕ = filter (λ i. leb (length front) i) (indexes_from (is_git_hit p commit) 0 all) in
    let part = indexes-end (is_git_hit p commit) h (whatever (graphs p) commit asked) nothing front above all whole wanted refl in
    let same : filter (λ i. leb c.saturating_sub-start.result i) (hit_indexes p commit) ≡ wanted =
    ap (λ (n : ℕ). filter (λ i. leb n i) (hit_indexes p commit)) start ∙ ap (λ (ys : List Advisory). filter (λ i. leb (length front) i) (indexes_from (is_git_hit p commit) 0 ys)) (sym kept)
    in
    let few : length wanted ≤ length c.as_slice-records.result.now = omega (arith, part.2, indexes-fewer (is_git_hit p commit) 0 all, length-map c.as_slice-records.result.now (λ a. arc_value a)) in
    let at : ℕ → Advisory = λ i. get_or all i nothing in
    let indexes : c.as_slice-3.result.now ≡ take c.most_of-most.result wanted = c.as_slice-3.ensures.value ∙ c.in_ok-indexes.ensures p commit s.repos places ∙ ap (take c.most_of-most.result) same in
    omega (arith, c.first_commit_hits.ensures.records, ap (λ (is : List ℕ). length is) indexes, length-take c.most_of-most.result wanted, part.2, ap (λ (ys : List Advisory). length (indexes_from (is_git_hit p commit) 0 ys)) kept)
