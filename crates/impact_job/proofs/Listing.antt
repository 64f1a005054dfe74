-- A merge of advisories, and what is to be done for their GIT ranges.
use Rattle.std.proofs.Common.{◌≡◌, ℕ, ◌+◌, ◌<◌, get_or, Bool, true, false, ◌||◌, List, [], ◌∷◌, ◌++◌, drop, length, Option, Ordering, Less, Greater, is_eq, bytes_eq, refl, sym, ap, subst, ◌∙◌, append_assoc}
use Rattle.std.specs.Prelude.{flat_map}
use Rattle.std.specs.Option.{option_to_list}
use Rattle.std.specs.List.{AllZip, AllByRecursion}
use Rattle.std.specs.declared.sync.Arc.{Arc}
use Rattle.std.proofs.lemmas.Grind.{flat_map-append}
use Rattle.std.proofs.lemmas.List.{drop_more}
use Rattle.std.proofs.lemmas.Map.Text.{is_eq-slice_cmp}
use Rattle.std.proofs.lemmas.Slice.Eq.{bytes_eq-Decides}
use Rattle.std.proofs.Math.Seq.{drop-append_seam}
use mathlib.Core.List.{IsPrefix}
use Rattle.osv_record.specs.Advisories.{Advisory}
use Rattle.osv_record.specs.Imports.{records_from, has_id}
use Rattle.evaluate.proofs.Ascending.{by_id, turned, Below, Ascending, below-trans, records-ascending}
use Rattle.history.specs.declared.past.Past.{Past}
use Rattle.history.specs.Prefixes.{advisories, records}
use Rattle.history.specs.Lookups.{has_import}
use Rattle.history.specs.Pieces.{GitRange, ranges_of}
use Rattle.history.proofs.Records.{has_id-records_from, records-again, records-more}
use Rattle.history.proofs.Prefixes.{records-of_parts}
use Rattle.impact_set.specs.Standing.{Known}
use Rattle.impact_job.specs.Order.{IsSplit}
use Rattle.impact_job.specs.declared.tables.Todo.{Todo}
use Rattle.impact_job.specs.Tables.{AreSetsOf, IsTodoOf}
use Rattle.impact_job.specs.Walks.{IsBegun}
use Rattle.impact_job.proofs.Parting.{Under}
use Rattle.impact_job.proofs.Deciding.{came}
use Rattle.impact_job.proofs.Merging.{records-split, ascending-behind}

-- ---- which ids are among advisories that ascend

apart : (a b : List ℕ) (o : Ordering) → by_id a b ≡ o → is_eq o ≡ false → bytes_eq a b ≡ false
apart a b o e n = sym (is_eq-slice_cmp a b) ∙ ap is_eq e ∙ n

below-none : (id : List ℕ) (xs : List Advisory) → Below id xs → has_id id xs ≡ false
below-none id [] o = refl
below-none id (x ∷ xs) o = ap (λ (t : Bool). t || has_id id xs) (apart id x.id Less o.0 refl) ∙ below-none id xs o.1

above-skips : (id : List ℕ) (y : Advisory) (ys : List Advisory) → by_id y.id id ≡ Less → has_id id (y ∷ ys) ≡ has_id id ys
above-skips id y ys less = ap (λ (t : Bool). t || has_id id ys) (apart id y.id Greater (turned y.id id Less less) refl)

has-middle : (front : List Advisory) (x : Advisory) (xs : List Advisory) → has_id x.id (front ++ x ∷ xs) ≡ true
has-middle [] x xs = ap (λ (t : Bool). t || has_id x.id xs) ((bytes_eq-Decides x.id x.id).1 refl)
has-middle (u ∷ front) x xs = or_true (bytes_eq x.id u.id) (has_id x.id (front ++ x ∷ xs)) (has-middle front x xs)
  where
    or_true : (a c : Bool) → c ≡ true → (a || c) ≡ true
    or_true true c e = refl
    or_true false c e = e

has-own : (front xs : List Advisory) → AllByRecursion (λ r. has_id r.id (front ++ xs) ≡ true) xs
has-own front [] = tt
has-own front (x ∷ xs) =
    (has-middle front x xs, subst (λ (ys : List Advisory). AllByRecursion (λ r. has_id r.id ys ≡ true) xs) (append_assoc front (x ∷ []) xs) (has-own (front ++ x ∷ []) xs))

every : (P : Advisory → Type 0) (xs : List Advisory) → ((r : Advisory) → P r) → AllByRecursion P xs
every P [] f = tt
every P (x ∷ xs) f = (f x, every P xs f)

each : (P Q : Advisory → Type 0) (xs : List Advisory) → ((r : Advisory) → P r → Q r) → AllByRecursion P xs → AllByRecursion Q xs
each P Q [] f a = tt
each P Q (x ∷ xs) f a = (f x a.0, each P Q xs f a.1)

first_part : (P : Advisory → Type 0) (xs ys : List Advisory) → AllByRecursion P (xs ++ ys) → AllByRecursion P xs
first_part P [] ys a = tt
first_part P (x ∷ xs) ys a = (a.0, first_part P xs ys a.1)

last_part : (P : Advisory → Type 0) (xs ys : List Advisory) → AllByRecursion P (xs ++ ys) → AllByRecursion P ys
last_part P [] ys a = a
last_part P (x ∷ xs) ys a = last_part P xs ys a.1

-- ---- the state between two advisories that changed

module _ (b p : List Past) where
  abbrev Anew : Advisory → Bool → Type 0
  Anew r t = has_import (came b p) r.id ≡ t

module _ {Z : Type 0} (b p : List Past) where
  pub record Listing (todo : List Todo) (rest : List Advisory) (sets : List (List (Arc Known Z))) (later : List Advisory) : Type 0 where
    pub begun : IsBegun b p todo (flat_map ranges_of (records_from rest later))
    pub old : AllZip (AreSetsOf b) rest sets
    pub rest_ascends : Ascending rest
    pub later_ascends : Ascending later
    pub free : AllByRecursion (λ r. Anew b p r (has_id r.id later)) rest
    pub anew : AllByRecursion (λ r. Anew b p r true) later

  module _ (todo : List Todo) (rest : List Advisory) (sets : List (List (Arc Known Z))) (y : Advisory) (ys below : List Advisory) (found : Option Advisory) (above : List Advisory) where
    -- the ranges of those below the next that changed, its own, and those of later ones
    pub next-ranges : Listing todo rest sets (y ∷ ys) → IsSplit y.id rest below found above
        → flat_map ranges_of (records_from rest (y ∷ ys)) ≡ flat_map ranges_of below ++ (ranges_of y ++ flat_map ranges_of (records_from above ys))
    next-ranges l s =
        ap (flat_map ranges_of) (records-split rest below found above y ys s l.later_ascends ∙ append_assoc below (y ∷ []) (records_from above ys))
        ∙ flat_map-append ranges_of below (y ∷ records_from above ys)

    pub next-old : Listing todo rest sets (y ∷ ys) → IsSplit y.id rest below found above → AllZip (AreSetsOf b) (below ++ (option_to_list found ++ above)) sets
    next-old l s = subst (λ (xs : List Advisory). AllZip (AreSetsOf b) xs sets) s.whole l.old

    none-below : (xs : List Advisory) → Under xs y.id → Below y.id ys → AllByRecursion (λ r. Anew b p r (has_id r.id (y ∷ ys))) xs → AllByRecursion (λ r. Anew b p r false) xs
    none-below [] u o a = tt
    none-below (x ∷ xs) u o a = (a.0 ∙ below-none x.id (y ∷ ys) (u.0, below-trans x.id y.id ys u.0 o), none-below xs u.1 o a.1)

    pub next-free : Listing todo rest sets (y ∷ ys) → IsSplit y.id rest below found above → AllByRecursion (λ r. Anew b p r false) below
    next-free l s =
        none-below below s.under l.later_ascends.0
        (first_part (λ r. Anew b p r (has_id r.id (y ∷ ys))) below (option_to_list found ++ above) (subst (λ (xs : List Advisory). AllByRecursion (λ r. Anew b p r (has_id r.id (y ∷ ys))) xs) s.whole l.free))

    free-above : (xs : List Advisory) → Below y.id xs → AllByRecursion (λ r. Anew b p r (has_id r.id (y ∷ ys))) xs → AllByRecursion (λ r. Anew b p r (has_id r.id ys)) xs
    free-above [] o a = tt
    free-above (x ∷ xs) o a = (a.0 ∙ above-skips x.id y ys o.0, free-above xs o.1 a.1)

    pub next-listing : (more : List Todo) (later : List (List (Arc Known Z))) → Listing todo rest sets (y ∷ ys) → IsSplit y.id rest below found above
        → IsBegun b p more (flat_map ranges_of (records_from above ys)) → AllZip (AreSetsOf b) above later → Listing more above later ys
    next-listing more later l s w z =
        let behind : List Advisory = option_to_list found ++ above in
        record {
          begun = w;
          old = z;
          rest_ascends = ascending-behind (option_to_list found) above (ascending-behind below behind (subst (λ (xs : List Advisory). Ascending xs) s.whole l.rest_ascends));
          later_ascends = l.later_ascends.1;
          free =
              free-above above s.over
              (last_part (λ r. Anew b p r (has_id r.id (y ∷ ys))) (option_to_list found) above
              (last_part (λ r. Anew b p r (has_id r.id (y ∷ ys))) below behind (subst (λ (xs : List Advisory). AllByRecursion (λ r. Anew b p r (has_id r.id (y ∷ ys))) xs) s.whole l.free)));
          anew = l.anew.1;
        }

  -- ---- the first and the last state

  pub first-listing : (todo : List Todo) (base : List Advisory) (sets : List (List (Arc Known Z))) (changed : List Advisory) → IsPrefix b p → todo ≡ [] → base ≡ records b → changed ≡ records (came b p) → AllZip (AreSetsOf b) (records b) sets
      → Listing todo base sets changed
  first-listing todo base sets changed front none kept last old =
      let came_is : (came b p) ≡ front.0 = ap (drop (length b)) (sym front.1) ∙ drop-append_seam b front.0 in
      let all : records_from base changed ≡ records p =
      ap (λ (xs : List Advisory). records_from xs changed) kept ∙ ap (λ (xs : List Advisory). records_from (records b) xs) last
      ∙ ap (λ (xs : List Advisory). records_from xs (records (came b p))) (sym (records-again (advisories b))) ∙ sym (records-more (records b) (records (came b p)))
      ∙ sym (records-of_parts b (came b p)) ∙ ap (λ (q : List Past). records q) (ap (λ (q : List Past). b ++ q) came_is ∙ front.1)
      in
      let same : (r : Advisory) → Anew b p r (has_id r.id changed) =
      λ r. sym (ap (λ (xs : List Advisory). has_id r.id xs) last ∙ has_id-records_from r.id [] (advisories (came b p)))
      in
      record {
        begun = record { walked = []; whole = ap (flat_map ranges_of) all; done = subst (λ (ts : List Todo). AllZip (IsTodoOf b p) [] ts) (sym none) tt };
        old = subst (λ (xs : List Advisory). AllZip (AreSetsOf b) xs sets) (sym kept) old;
        rest_ascends = subst (λ (xs : List Advisory). Ascending xs) (sym kept) (records-ascending [] (advisories b) tt);
        later_ascends = subst (λ (xs : List Advisory). Ascending xs) (sym last) (records-ascending [] (advisories (came b p)) tt);
        free = every (λ r. Anew b p r (has_id r.id changed)) base same;
        anew = each (λ r. has_id r.id changed ≡ true) (λ r. Anew b p r true) changed (λ r h. same r ∙ h) (has-own [] changed);
      }

  pub last-free : (todo : List Todo) (rest : List Advisory) (sets : List (List (Arc Known Z))) → Listing todo rest sets [] → AllByRecursion (λ r. Anew b p r false) rest
  last-free todo rest sets l = l.free

-- ---- advisories of the base, one after another

pub one-kept : (b p : List Past) (todo : List Todo) (r : Advisory) (rest : List Advisory) (later : List GitRange) → IsBegun b p todo (flat_map ranges_of (r ∷ rest) ++ later) → IsBegun b p todo (ranges_of r ++ (flat_map ranges_of rest ++ later))
one-kept b p todo r rest later w = subst (λ (xs : List GitRange). IsBegun b p todo xs) (append_assoc (ranges_of r) (flat_map ranges_of rest) later) w

pub item_next : {X : Type 0} (xs : List X) (i : ℕ) (x : X) → i < length xs → x ≡ get_or xs i x → drop i xs ≡ x ∷ drop (i + 1) xs
item_next {X = X} xs i x lt is = drop_more xs i x lt ∙ ap (λ (y : X). y ∷ drop (i + 1) xs) (sym is)
