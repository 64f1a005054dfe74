-- A map by ids beside the imports that count.
use Rattle.std.proofs.Common.{◌≡◌, ℕ, List, [], ◌∷◌, ◌++◌, map, Ordering, Less, Equal, Greater, Bor, nat_cmp, refl, sym, ap, ◌∙◌}
use Rattle.std.specs.Ordering.{match_ordering}
use Rattle.std.specs.Cmp.Lexicographic.{slice_cmp}
use Rattle.std.specs.BTreeMap.{insert_entry}
use Rattle.osv_record.specs.Advisories.{Advisory}
use Rattle.osv_record.specs.Imports.{placed, records}
use Rattle.evaluate.specs.Hits.{keyed}
use Rattle.evaluate.proofs.Ascending.{by_id, one_id}
use Rattle.evaluate.proofs.ById.{pair, by_key}
use Rattle.history.proofs.Records.{records_from-append}

map-match : {X Y : Type 0} (f : X → Y) (o : Ordering) (a b c : List X) → map f (match_ordering o a b c) ≡ match_ordering o (map f a) (map f b) (map f c)
map-match f Less a b c = refl
map-match f Equal a b c = refl
map-match f Greater a b c = refl

pair-insert : {V : Type 0} (see : V → Advisory) (es : List (Bor (List ℕ) × V)) (k : Bor (List ℕ)) (v : V)
    → map (pair see) (insert_entry by_key es k v) ≡ insert_entry (slice_cmp nat_cmp) (map (pair see) es) k.now (see v)
pair-insert see [] k v = refl
pair-insert see (e ∷ es) k v = map-match (pair see) (by_key k e.0) _ _ _ ∙ rw (pair-insert see es k v) refl

same_place : (r x : Advisory) (o : Ordering) (xs : List Advisory) (rest : List (List ℕ × Advisory)) → by_id r.id x.id ≡ o → rest ≡ map keyed (placed r xs)
    → match_ordering o ((r.id, r) ∷ keyed x ∷ map keyed xs) ((x.id, r) ∷ map keyed xs) (keyed x ∷ rest) ≡ match_ordering o (map keyed (r ∷ x ∷ xs)) (map keyed (r ∷ xs)) (map keyed (x ∷ placed r xs))
same_place r x Less xs rest o e = refl
same_place r x Equal xs rest o e = ap (λ (i : List ℕ). (i, r) ∷ map keyed xs) (sym (one_id r.id x.id o))
same_place r x Greater xs rest o e = ap (λ (t : List (List ℕ × Advisory)). keyed x ∷ t) e

insert-keyed : (r : Advisory) (xs : List Advisory) → insert_entry (slice_cmp nat_cmp) (map keyed xs) r.id r ≡ map keyed (placed r xs)
insert-keyed r [] = refl
insert-keyed r (x ∷ xs) = same_place r x (by_id r.id x.id) xs _ refl (insert-keyed r xs) ∙ sym (map-match keyed (by_id r.id x.id) _ _ _)

-- a turn of the loop: the import r is put under its id
pub inserted : {V : Type 0} (see : V → Advisory) (es : List (Bor (List ℕ) × V)) (k : Bor (List ℕ)) (v : V) (imports : List Advisory) (r : Advisory)
    → k.now ≡ r.id → see v ≡ r → map (pair see) es ≡ map keyed (records imports) → map (pair see) (insert_entry by_key es k v) ≡ map keyed (records (imports ++ r ∷ []))
inserted see es k v imports r key value so_far =
    pair-insert see es k v ∙ rw (so_far, key, value) (insert-keyed r (records imports))
    ∙ ap (λ (xs : List Advisory). map keyed xs) (sym (records_from-append [] imports (r ∷ [])))
