-- A hit by the set of a range is a hit by its graph.
use Rattle.std.proofs.Common.{◌≡◌, ℕ, suc, ◌<◌, ◌+◌, Bool, true, false, ◌&&◌, ◌||◌, not, get_or, drop, bytes_eq, cond, List, [], ◌∷◌, ◌++◌, length, Option, Some, None, refl, sym, ap, subst, ◌∙◌, arith}
use Rattle.std.specs.Prelude.{is_some, nat_lt, unwrap_or}
use Rattle.std.specs.Option.{option_map_or}
use Rattle.std.specs.List.{AllZip, list_any, position_or_len}
use Rattle.std.proofs.lemmas.Bool.{lt-ltb, ltb-true}
use Rattle.std.proofs.lemmas.List.{drop_more}
use Rattle.osv_prim.specs.declared.package.PackageKey.{PackageKey}
use Rattle.osv_prim.specs.declared.oid.CommitRow.{CommitRow}
use Rattle.osv_prim.specs.declared.event.Event.{Event}
use Rattle.osv_prim.specs.Graphs as of_rows
use Rattle.osv_prim.specs.Graphs.{number_of, id_at}
use Rattle.osv_record.specs.Advisories.{Extent, Entry, Advisory, is_git}
use Rattle.git_range.specs.Affected.{is_affected}
use Rattle.evaluate.specs.Hits.{Repo, graph_of, affects_commit, git_range_hit, git_entry_hit, is_of_package}
use Rattle.history.specs.declared.past.Past.{Past}
use Rattle.history.specs.Prefixes.{graph, graphs}
use Rattle.history.specs.Lookups.{has_grow}
use Rattle.history.specs.Pieces.{GitRange, repo_of, ranges_from}
use Rattle.history.proofs.Lookups.{graph-found_exactly}
use Rattle.commit_graph.proofs.Rows.{found}
use Rattle.impact_set.specs.Standing.{Known, StandsFor, is_member}
use Rattle.impact_set.proofs.Members.{member-affected}
use Rattle.set_hits.specs.Places.{places_of, number_in, has, set_hit}
use Rattle.piece_work.specs.Sets.{IsSetOf}
use Rattle.set_hits.proofs.Placing.{number_at}

alike : (x y : Bool) → (x ≡ true → y ≡ true) → (y ≡ true → x ≡ true) → x ≡ y
alike true y f g = sym (f refl)
alike false true f g = g refl
alike false false f g = refl

lt_more : (k n : ℕ) → nat_lt (1 + k) (suc n) ≡ nat_lt k n
lt_more k n = alike (nat_lt (1 + k) (suc n)) (nat_lt k n) (λ t. lt-ltb k n (omega (arith, ltb-true (1 + k) (suc n) t))) (λ t. lt-ltb (1 + k) (suc n) (omega (arith, ltb-true k n t)))

within_step : (b : Bool) (k n : ℕ) (rest : Bool) → nat_lt k n ≡ rest → nat_lt (cond (not b) (1 + k) 0) (suc n) ≡ (b || rest)
within_step true k n rest e = lt-ltb 0 (suc n) (omega arith)
within_step false k n rest e = lt_more k n ∙ e

within_any : {X : Type 0} (p : X → Bool) (xs : List X) → nat_lt (position_or_len p xs) (length xs) ≡ list_any p xs
within_any p [] = refl
within_any p (x ∷ xs) = within_step (p x) (position_or_len p xs) (length xs) (list_any p xs) (within_any p xs)

some_test : (b : Bool) (n : ℕ) → is_some (cond b (Some n) None) ≡ b
some_test true n = refl
some_test false n = refl

pub has_number : (graph : List CommitRow) (c : List ℕ) → is_some (number_of graph c) ≡ of_rows.has graph c
has_number graph c =
    some_test (nat_lt (position_or_len (bytes_eq c) (of_rows.ids graph)) (length (of_rows.ids graph))) (position_or_len (bytes_eq c) (of_rows.ids graph))
    ∙ within_any (bytes_eq c) (of_rows.ids graph)

both_true : (a b : Bool) → a ≡ true → (a && b) ≡ b
both_true true b e = refl
both_true false b e = absurd cc

module _ (events : List Event) (g : List CommitRow) (known : Known) (c : List ℕ) (stands : StandsFor events g known) where
  pub in_graph : (o : Option ℕ) → number_of g c ≡ o → option_map_or (has known) o false ≡ affects_commit c events g
  in_graph None e =
      let absent : of_rows.has g c ≡ false = sym (has_number g c) ∙ ap is_some e in
      sym (ap (λ (t : Bool). t && is_affected g events c) absent)
  in_graph (Some n) e =
      let f = found g c n e in
      let there : of_rows.has g c ≡ true = sym (has_number g c) ∙ ap is_some e in
      let covered : n < length known.reached = omega (arith, f.0, stands.reached.size) in
      both_true (nat_lt n (length known.reached)) (is_member known n) (lt-ltb n (length known.reached) covered)
      ∙ member-affected events g known stands n f.0
      ∙ ap (is_affected g events) f.1
      ∙ sym (both_true (of_rows.has g c) (is_affected g events c) there)

  in_repo : (b : Bool) → option_map_or (has known) (cond b (number_of g c) None) false ≡ option_map_or (affects_commit c events) (cond b (Some g) None) false
  in_repo true = in_graph (number_of g c) refl
  in_repo false = refl

pub set_hit-is : (p : List Past) (x : GitRange) (known : Known) (c key : List ℕ) → IsSetOf p x known → x.extent.repo ≡ Some key → set_hit known (places_of (graphs p) c) key ≡ git_range_hit (graphs p) c x.extent
set_hit-is p x known c key stands e =
    let at : repo_of x ≡ key = ap (λ (o : Option (List ℕ)). unwrap_or o []) e in
    let own : StandsFor x.extent.events (graph p key) known = subst (λ (k : List ℕ). StandsFor x.extent.events (graph p k) known) at stands in
    ap (λ (o : Option ℕ). option_map_or (has known) o false) (number_at p c key)
    ∙ in_repo x.extent.events (graph p key) known c own (has_grow p key)
    ∙ ap (λ (o : Option (List CommitRow)). option_map_or (affects_commit c x.extent.events) o false) (sym (graph-found_exactly p key))
    ∙ ap (λ (o : Option (List ℕ)). option_map_or (λ k. option_map_or (affects_commit c x.extent.events) (graph_of (graphs p) k) false) o false) (sym e)

-- ---- the sets of ranges in turn

module _ (R : GitRange → Known → Type 0) where
  pub first_set : (b : Bool) (x : GitRange) (xs more : List GitRange) (s : Known) (sets : List Known) → b ≡ true → AllZip R (cond b (x ∷ xs) xs ++ more) (s ∷ sets) → R x s × AllZip R (xs ++ more) sets
  first_set true x xs more s sets e h = h
  first_set false x xs more s sets e h = absurd cc

  no_set : (b : Bool) (x : GitRange) (xs more : List GitRange) → b ≡ true → AllZip R (cond b (x ∷ xs) xs ++ more) [] → ⊥
  no_set true x xs more e h = h
  no_set false x xs more e h = absurd cc

  other_set : (b : Bool) (x : GitRange) (xs more : List GitRange) (sets : List Known) → b ≡ false → AllZip R (cond b (x ∷ xs) xs ++ more) sets → AllZip R (xs ++ more) sets
  other_set true x xs more sets e h = absurd cc
  other_set false x xs more sets e h = h

abbrev range_as : Advisory → ℕ → ℕ → Extent → GitRange
range_as r e i x = record { advisory = r; entry = e; range = i; extent = x }

module _ (p : List Past) (c : List ℕ) (r : Advisory) (e i : ℕ) (x : Extent) (rest : List Extent) (more : List GitRange) where
  -- a GIT range has the first set
  pub git-first : (key : List ℕ) (s : Known) (sets : List Known) → x.repo ≡ Some key → is_some x.repo ≡ is_git x.kind → AllZip (IsSetOf p) (ranges_from r e i (x ∷ rest) ++ more) (s ∷ sets)
      → (set_hit s (places_of (graphs p) c) key ≡ git_range_hit (graphs p) c x) × AllZip (IsSetOf p) (ranges_from r e (i + 1) rest ++ more) sets
  git-first key s sets is its h =
      let f = first_set (IsSetOf p) (is_git x.kind) (range_as r e i x) (ranges_from r e (i + 1) rest) more s sets (sym its ∙ ap is_some is) h in
      (set_hit-is p (range_as r e i x) s c key f.0 is, f.1)

  pub git-needs : (key : List ℕ) → x.repo ≡ Some key → is_some x.repo ≡ is_git x.kind → AllZip (IsSetOf p) (ranges_from r e i (x ∷ rest) ++ more) [] → ⊥
  git-needs key is its h = no_set (IsSetOf p) (is_git x.kind) (range_as r e i x) (ranges_from r e (i + 1) rest) more (sym its ∙ ap is_some is) h

  -- another range has none
  pub other-first : (sets : List Known) → x.repo ≡ None → is_some x.repo ≡ is_git x.kind → AllZip (IsSetOf p) (ranges_from r e i (x ∷ rest) ++ more) sets
      → (false ≡ git_range_hit (graphs p) c x) × AllZip (IsSetOf p) (ranges_from r e (i + 1) rest ++ more) sets
  other-first sets is its h = (
    sym (ap (λ (o : Option (List ℕ)). option_map_or (λ k. option_map_or (affects_commit c x.events) (graph_of (graphs p) k) false) o false) is),
    other_set (IsSetOf p) (is_git x.kind) (range_as r e i x) (ranges_from r e (i + 1) rest) more sets (sym its ∙ ap is_some is) h,
  )

-- ---- entries

pub entry-says : (repos : List Repo) (commit : List ℕ) (asked : Option PackageKey) (a : Entry) (ranges : List Extent) (hit b v : Bool) → ranges ≡ a.ranges → hit ≡ list_any (git_range_hit repos commit) ranges
    → b ≡ (is_of_package asked a.«package» && hit) → b ≡ v → git_entry_hit repos commit asked a ≡ v
entry-says repos commit asked a ranges hit b v er eh eb ev =
    ap (λ (t : Bool). is_of_package asked a.«package» && t) (sym (eh ∙ ap (list_any (git_range_hit repos commit)) er)) ∙ sym eb ∙ ev

pub or_later : (a b c : Bool) → (a || (b || c)) ≡ ((a || b) || c)
or_later true b c = refl
or_later false b c = refl

pub item_next : {X : Type 0} (xs : List X) (i : ℕ) (x : X) → i < length xs → x ≡ get_or xs i x → drop i xs ≡ x ∷ drop (i + 1) xs
item_next {X = X} xs i x lt is = drop_more xs i x lt ∙ ap (λ (y : X). y ∷ drop (i + 1) xs) (sym is)
