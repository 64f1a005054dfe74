-- What affects a commit on the repositories that have it is what affects it.
use Rattle.std.proofs.Common.{◌≡◌, ℕ, Bool, true, false, cond, ◌&&◌, ◌||◌, not, List, [], ◌∷◌, ◌++◌, map, Option, Some, None, bytes_eq, refl, sym, ap, subst, ◌∙◌}
use Rattle.std.specs.Prelude.{is_some}
use Rattle.std.specs.List.{list_any, AllByRecursion}
use Rattle.std.specs.Option.{option_map_or}
use Rattle.std.proofs.lemmas.Bool.{false≢true}
use Rattle.std.proofs.lemmas.Slice.Eq.{bytes_eq-Decides}
use Rattle.osv_prim.specs.declared.oid.CommitRow.{CommitRow}
use Rattle.osv_prim.specs.declared.event.Event.{Event}
use Rattle.osv_prim.specs.Graphs as of_rows
use Rattle.osv_prim.specs.Graphs.{number_of}
use Rattle.osv_record.specs.Advisories.{Advisory, Entry, Extent}
use Rattle.git_range.specs.Affected.{is_affected}
use Rattle.evaluate.specs.Hits.{Repo, graph_of, affects_commit, git_range_hit, git_entry_hit}
use Rattle.history.specs.declared.past.Past.{Past}
use Rattle.history.specs.Prefixes.{keys, graph, graphs}
use Rattle.history.proofs.Prefixes.{Apart, keys-apart}
use Rattle.set_hits.specs.Places.{Place, with_place, places_of}
use Rattle.set_hits.proofs.Hitting.{has_number}
use Rattle.repo_index.specs.Listing.{range_hits_on, entry_hits_on, hits_on, is_git_hit}

-- ---- one of some

four : (a b c d : Bool) → ((a || c) || (b || d)) ≡ ((a || b) || (c || d))
four true b c d = refl
four false true true d = refl
four false true false d = refl
four false false c d = refl

or-none : (a b : Bool) → b ≡ false → (a || b) ≡ a
or-none true b e = refl
or-none false b e = e

module _ {X : Type 0} where
  pub any-same : (p q : X → Bool) → ((x : X) → p x ≡ q x) → (xs : List X) → list_any p xs ≡ list_any q xs
  any-same p q same [] = refl
  any-same p q same (x ∷ xs) = ap (λ (b : Bool). b || list_any p xs) (same x) ∙ ap (λ (b : Bool). q x || b) (any-same p q same xs)

  any-never : (xs : List X) → list_any (λ x. false) xs ≡ false
  any-never [] = refl
  any-never (x ∷ xs) = any-never xs

  any-either : (p q : X → Bool) (xs : List X) → (list_any p xs || list_any q xs) ≡ list_any (λ x. p x || q x) xs
  any-either p q [] = refl
  any-either p q (x ∷ xs) = four (p x) (q x) (list_any p xs) (list_any q xs) ∙ ap (λ (b : Bool). (p x || q x) || b) (any-either p q xs)

  pub any-both : (b : Bool) (p : X → Bool) (xs : List X) → list_any (λ x. b && p x) xs ≡ (b && list_any p xs)
  any-both true p xs = refl
  any-both false p xs = any-never xs

pub any-turned : {X Y : Type 0} (f : X → Y → Bool) (xs : List X) (ys : List Y) → list_any (λ x. list_any (f x) ys) xs ≡ list_any (λ y. list_any (λ x. f x y) xs) ys
any-turned f [] ys = sym (any-never ys)
any-turned f (x ∷ xs) ys = ap (λ (b : Bool). list_any (f x) ys || b) (any-turned f xs ys) ∙ any-either (f x) (λ y. list_any (λ x. f x y) xs) ys

pub any-map : {X Y : Type 0} (see : X → Y) (p : Y → Bool) (xs : List X) → list_any p (map see xs) ≡ list_any (λ x. p (see x)) xs
any-map see p [] = refl
any-map see p (x ∷ xs) = ap (λ (b : Bool). p (see x) || b) (any-map see p xs)

-- ---- the repositories that have the commit

same_key : (a b : List ℕ) → bytes_eq a b ≡ true → a ≡ b
same_key a b e = (bytes_eq-Decides a b).0 e

turned : (a b : List ℕ) (t : Bool) → bytes_eq a b ≡ t → bytes_eq b a ≡ t
turned a b true e = (bytes_eq-Decides b a).1 (sym (same_key a b e))
turned a b false e = other (bytes_eq b a) refl
  where
    other : (t : Bool) → bytes_eq b a ≡ t → t ≡ false
    other true is = absurd (false≢true (sym e ∙ (bytes_eq-Decides a b).1 (sym (same_key b a is))))
    other false is = refl

module _ (f : List ℕ → List CommitRow) (c : List ℕ) where
  abbrev repos : List (List ℕ) → List Repo
  repos us = map (λ u. (u, f u)) us

  placed-step : (p q : Place → Bool) → ((u : List ℕ) (n : ℕ) → number_of (f u) c ≡ Some n → p (u, n) ≡ q (u, n)) → (u : List ℕ) (rest : List Place) → list_any p rest ≡ list_any q rest
      → (o : Option ℕ) → number_of (f u) c ≡ o → list_any p (with_place [] u o ++ rest) ≡ list_any q (with_place [] u o ++ rest)
  placed-step p q same u rest later None is = later
  placed-step p q same u rest later (Some n) is = ap (λ (b : Bool). b || list_any p rest) (same u n is) ∙ ap (λ (b : Bool). q (u, n) || b) later

  -- what holds of the number of a commit in each graph holds of the places
  pub any-placed : (p q : Place → Bool) → ((u : List ℕ) (n : ℕ) → number_of (f u) c ≡ Some n → p (u, n) ≡ q (u, n)) → (us : List (List ℕ)) → list_any p (places_of (repos us) c) ≡ list_any q (places_of (repos us) c)
  any-placed p q same [] = refl
  any-placed p q same (u ∷ us) = placed-step p q same u (places_of (repos us) c) (any-placed p q same us) (number_of (f u) c) refl

  module _ (events : List Event) (key : List ℕ) where
    abbrev test : Place → Bool
    test place = bytes_eq key place.0 && affects_commit c events (f place.0)

    abbrev there : List (List ℕ) → Bool
    there us = option_map_or (affects_commit c events) (graph_of (repos us) key) false

    no-graph : (us : List (List ℕ)) → AllByRecursion (λ w. bytes_eq key w ≡ false) us → there us ≡ false
    no-graph [] apart = refl
    no-graph (w ∷ us) apart =
        ap (λ (b : Bool). option_map_or (affects_commit c events) (cond b (Some (f w)) (graph_of (repos us) key)) false) (turned key w false apart.0) ∙ no-graph us apart.1

    nowhere : (u : List ℕ) (us : List (List ℕ)) → bytes_eq u key ≡ true → AllByRecursion (λ w. bytes_eq u w ≡ false) us → there us ≡ false
    nowhere u us same apart = no-graph us (subst (λ (k : List ℕ). AllByRecursion (λ w. bytes_eq k w ≡ false) us) (same_key u key same) apart)

    step : (u : List ℕ) (us : List (List ℕ)) → AllByRecursion (λ w. bytes_eq u w ≡ false) us → list_any test (places_of (repos us) c) ≡ there us → (o : Option ℕ) → number_of (f u) c ≡ o → (b : Bool) → bytes_eq u key ≡ b
        → list_any test (with_place [] u o ++ places_of (repos us) c) ≡ option_map_or (affects_commit c events) (cond b (Some (f u)) (graph_of (repos us) key)) false
    step u us apart later None is true same =
        let absent : of_rows.has (f u) c ≡ false = sym (has_number (f u) c) ∙ ap is_some is in
        later ∙ nowhere u us same apart ∙ sym (ap (λ (b : Bool). b && is_affected (f u) events c) absent)
    step u us apart later (Some n) is true same =
        or-none (test (u, n)) (list_any test (places_of (repos us) c)) (later ∙ nowhere u us same apart) ∙ ap (λ (b : Bool). b && affects_commit c events (f u)) (turned u key true same)
    step u us apart later None is false same = later
    step u us apart later (Some n) is false same = ap (λ (b : Bool). (b && affects_commit c events (f u)) || list_any test (places_of (repos us) c)) (turned u key false same) ∙ later

    pub at-places : (us : List (List ℕ)) → Apart us → list_any test (places_of (repos us) c) ≡ there us
    at-places [] apart = refl
    at-places (u ∷ us) apart = step u us apart.0 (at-places us apart.1) (number_of (f u) c) refl (bytes_eq u key) refl

module _ (p : List Past) (c : List ℕ) where
  abbrev placed : List Place
  placed = places_of (graphs p) c

  range-places : (x : Extent) → list_any (λ place. range_hits_on p place.0 c x) placed ≡ git_range_hit (graphs p) c x
  range-places x = step x.repo refl
    where
      step : (own : Option (List ℕ)) → x.repo ≡ own → list_any (λ place. range_hits_on p place.0 c x) placed ≡ git_range_hit (graphs p) c x
      step None is =
          any-same (λ place. range_hits_on p place.0 c x) (λ place. false)
          (λ place. ap (λ (o : Option (List ℕ)). option_map_or (λ key. bytes_eq key place.0) o false && affects_commit c x.events (graph p place.0)) is) placed
          ∙ any-never placed
          ∙ sym (ap (λ (o : Option (List ℕ)). option_map_or (λ key. option_map_or (affects_commit c x.events) (graph_of (graphs p) key) false) o false) is)
      step (Some key) is =
          any-same (λ place. range_hits_on p place.0 c x) (λ place. bytes_eq key place.0 && affects_commit c x.events (graph p place.0))
          (λ place. ap (λ (o : Option (List ℕ)). option_map_or (λ key. bytes_eq key place.0) o false && affects_commit c x.events (graph p place.0)) is) placed
          ∙ at-places (graph p) c x.events key (keys p) (keys-apart [] p tt)
          ∙ sym (ap (λ (o : Option (List ℕ)). option_map_or (λ key. option_map_or (affects_commit c x.events) (graph_of (graphs p) key) false) o false) is)

  entry-places : (a : Entry) → list_any (λ place. entry_hits_on p place.0 c a) placed ≡ git_entry_hit (graphs p) c None a
  entry-places a = any-turned (λ place. range_hits_on p place.0 c) placed a.ranges ∙ any-same (λ x. list_any (λ place. range_hits_on p place.0 c x) placed) (git_range_hit (graphs p) c) range-places a.ranges

  -- an advisory affects the commit where it does so on some repository
  pub hit-places : (r : Advisory) → list_any (λ place. hits_on p place.0 c r) placed ≡ is_git_hit p c r
  hit-places r =
      any-both (not r.withdrawn) (λ place. list_any (entry_hits_on p place.0 c) r.affected) placed
      ∙ ap (λ (b : Bool). not r.withdrawn && b)
      (any-turned (λ place. entry_hits_on p place.0 c) placed r.affected ∙ any-same (λ a. list_any (λ place. entry_hits_on p place.0 c a) placed) (git_entry_hit (graphs p) c None) entry-places r.affected)
