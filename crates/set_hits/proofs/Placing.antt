-- The number that is found for a repository is the one in its graph.
use Rattle.std.proofs.Common.{◌≡◌, ℕ, ◌+◌, ◌<◌, length, take, get_or, Bool, true, false, cond, List, [], ◌∷◌, ◌++◌, map, Option, Some, None, bytes_eq, refl, sym, ap, subst, ◌∙◌, append_assoc}
use Rattle.std.specs.List.{AllByRecursion}
use Rattle.std.specs.Option.{option_map_or}
use Rattle.std.proofs.lemmas.List.{append-nil, map_more}
use Rattle.std.proofs.lemmas.Slice.Eq.{bytes_eq-Decides}
use Rattle.osv_prim.specs.declared.oid.CommitRow.{CommitRow}
use Rattle.osv_prim.specs.Graphs.{number_of}
use Rattle.evaluate.specs.Hits.{Repo, graph_of}
use Rattle.history.specs.declared.past.Past.{Past}
use Rattle.history.specs.Prefixes.{keys, graph, graphs}
use Rattle.history.specs.Lookups.{has_grow}
use Rattle.history.proofs.Prefixes.{Apart, keys-apart}
use Rattle.history.proofs.Lookups.{graph-found_exactly}
use Rattle.set_hits.specs.Places.{Place, with_place, places_of, number_in}

same_key : (a b : List ℕ) → bytes_eq a b ≡ true → a ≡ b
same_key a b e = (bytes_eq-Decides a b).0 e

false_from : (b : Bool) → (b ≡ true → ⊥) → b ≡ false
false_from true h = absurd (h refl)
false_from false h = refl

turned : (a b : List ℕ) → bytes_eq a b ≡ false → bytes_eq b a ≡ false
turned a b e = false_from (bytes_eq b a) (λ t. let s : bytes_eq a b ≡ true = (bytes_eq-Decides a b).1 (sym (same_key b a t)) in absurd cc)

-- the place of a repository, before the others
place_step : (o : Option ℕ) (u key : List ℕ) (rest : List Place) (b : Bool) → bytes_eq u key ≡ b → (b ≡ true → number_in rest key ≡ None) → number_in (with_place [] u o ++ rest) key ≡ cond b o (number_in rest key)
place_step None u key rest true e none = none refl
place_step None u key rest false e none = refl
place_step (Some n) u key rest b e none = ap (λ (t : Bool). cond t (Some n) (number_in rest key)) e

absent_step : (o : Option ℕ) (u key : List ℕ) (rest : List Place) → bytes_eq u key ≡ false → number_in rest key ≡ None → number_in (with_place [] u o ++ rest) key ≡ None
absent_step None u key rest e none = none
absent_step (Some n) u key rest e none = ap (λ (t : Bool). cond t (Some n) (number_in rest key)) e ∙ none

or_graph : (b : Bool) (g : List CommitRow) (o : Option (List CommitRow)) (c : List ℕ) → option_map_or (λ x. number_of x c) (cond b (Some g) o) None ≡ cond b (number_of g c) (option_map_or (λ x. number_of x c) o None)
or_graph true g o c = refl
or_graph false g o c = refl

module _ (f : List ℕ → List CommitRow) (c : List ℕ) where
  abbrev repos : List (List ℕ) → List Repo
  repos us = map (λ u. (u, f u)) us

  none_of : (u : List ℕ) (us : List (List ℕ)) → AllByRecursion (λ w. bytes_eq u w ≡ false) us → number_in (places_of (repos us) c) u ≡ None
  none_of u [] p = refl
  none_of u (w ∷ us) p = absent_step (number_of (f w) c) w u (places_of (repos us) c) (turned u w p.0) (none_of u us p.1)

  place_found : (key : List ℕ) (us : List (List ℕ)) → Apart us → number_in (places_of (repos us) c) key ≡ option_map_or (λ g. number_of g c) (graph_of (repos us) key) None
  place_found key [] p = refl
  place_found key (u ∷ us) p =
      place_step (number_of (f u) c) u key (places_of (repos us) c) (bytes_eq u key) refl (λ t. subst (λ (k : List ℕ). number_in (places_of (repos us) c) k ≡ None) (same_key u key t) (none_of u us p.0))
      ∙ ap (λ (o : Option ℕ). cond (bytes_eq u key) (number_of (f u) c) o) (place_found key us p.1)
      ∙ sym (or_graph (bytes_eq u key) (f u) (graph_of (repos us) key) c)

pub number_at : (p : List Past) (c key : List ℕ) → number_in (places_of (graphs p) c) key ≡ cond (has_grow p key) (number_of (graph p key) c) None
number_at p c key =
    place_found (graph p) c key (keys p) (keys-apart [] p tt)
    ∙ ap (λ (o : Option (List CommitRow)). option_map_or (λ g. number_of g c) o None) (graph-found_exactly p key)
    ∙ or_graph (has_grow p key) (graph p key) None c

-- ---- one repository after another

places-append : (xs ys : List Repo) (c : List ℕ) → places_of (xs ++ ys) c ≡ places_of xs c ++ places_of ys c
places-append [] ys c = refl
places-append (x ∷ xs) ys c = ap (λ (ps : List Place). with_place [] x.0 (number_of x.1 c) ++ ps) (places-append xs ys c) ∙ sym (append_assoc (with_place [] x.0 (number_of x.1 c)) (places_of xs c) (places_of ys c))

with_place-last : (places : List Place) (key : List ℕ) (o : Option ℕ) → places ++ (with_place [] key o ++ []) ≡ with_place places key o
with_place-last places key None = append-nil places
with_place-last places key (Some n) = refl

pub places-push : (xs : List Repo) (x : Repo) (c : List ℕ) → places_of (xs ++ x ∷ []) c ≡ with_place (places_of xs c) x.0 (number_of x.1 c)
places-push xs x c = places-append xs (x ∷ []) c ∙ with_place-last (places_of xs c) x.0 (number_of x.1 c)

pub one_place : {A : Type 0} (see : A → Repo) (xs : List A) (i : ℕ) (a : A) (c : List ℕ) → i < length xs → a ≡ get_or xs i a
    → with_place (places_of (map see (take i xs)) c) (see a).0 (number_of (see a).1 c) ≡ places_of (map see (take (i + 1) xs)) c
one_place see xs i a c lt at =
    sym (places-push (map see (take i xs)) (see a) c)
    ∙ ap (λ (rs : List Repo). places_of rs c) (ap (λ (y : Repo). map see (take i xs) ++ y ∷ []) (ap see at) ∙ sym (map_more see xs i a lt))
