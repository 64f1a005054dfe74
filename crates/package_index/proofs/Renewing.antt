-- What a later list of advisories lists, from what an earlier one did.
use Rattle.std.proofs.Common.{◌≡◌, ℕ, zero, suc, ◌+◌, ◌<◌, inl, inr, Bool, true, false, cond, ◌&&◌, ◌||◌, eqb, nat_lt, List, [], ◌∷◌, ◌++◌, length, Option, Some, None, refl, sym, ap, subst, ◌∙◌, arith}
use Rattle.std.specs.Prelude.{slice_get}
use Rattle.std.specs.Option.{option_map_or}
use Rattle.std.specs.List.{list_any}
use Rattle.std.proofs.lemmas.Bool.{cases_Bool, and_parts, or_cases, or_left, eq-eqb, eqb-true, ne_eqb, ltb-true, false≢true, false_from_ne_true}
use Rattle.std.proofs.lemmas.List.Folds.{Any-from_list_any, list_any_at}
use Rattle.osv_prim.specs.declared.package.PackageKey.{PackageKey}
use Rattle.osv_record.specs.Advisories.{Advisory}
use Rattle.record_moves.specs.Moved.{is_among, AreMoved}
use Rattle.package_index.specs.Listing.{lists, lists_at, listed, listed_from}
use Rattle.package_index.specs.Noted.{goes_to, is_entry, is_moved_entry, noted_at, moved_at}
use Rattle.package_index.proofs.Noting.{Entries}
use Rattle.package_index.proofs.Rising.{has, listed-above, absent}
use Rattle.package_index.proofs.Kept.{goes}

-- ---- what is listed at a place

or_true : (a b : Bool) → b ≡ true → (a || b) ≡ true
or_true true b h = refl
or_true false b h = h

first-listed : (b : Bool) (k i : ℕ) (rs : List ℕ) → has (cond b (k ∷ []) [] ++ rs) i ≡ ((b && eqb k i) || has rs i)
first-listed true k i rs = refl
first-listed false k i rs = refl

and_true : (a : Bool) → (a && true) ≡ a
and_true true = refl
and_true false = refl

and_no : (a : Bool) → (a && false) ≡ false
and_no true = refl
and_no false = refl

or_no : (a : Bool) → (a || false) ≡ a
or_no true = refl
or_no false = refl

listed-from : (k i : ℕ) (rs : List Advisory) (asked : PackageKey) → has (listed_from k rs asked) (k + i) ≡ lists_at rs asked i
listed-from k i [] asked = refl
listed-from k zero (r ∷ rs) asked =
    let here : k + 0 ≡ k = omega arith in
    ap (has (listed_from k (r ∷ rs) asked)) here ∙ first-listed (lists asked r) k k (listed_from (k + 1) rs asked) ∙ ap (λ (b : Bool). (lists asked r && b) || has (listed_from (k + 1) rs asked) k) (eq-eqb k k refl)
    ∙ ap (λ (b : Bool). (lists asked r && true) || b) (absent k (listed_from (k + 1) rs asked) (listed-above k (k + 1) rs asked (omega arith)) k refl) ∙ or_no (lists asked r && true) ∙ and_true (lists asked r)
listed-from k (suc i) (r ∷ rs) asked =
    let next : k + suc i ≡ (k + 1) + i = omega arith in
    first-listed (lists asked r) k (k + suc i) (listed_from (k + 1) rs asked)
    ∙ ap (λ (b : Bool). (lists asked r && b) || has (listed_from (k + 1) rs asked) (k + suc i)) (ne_eqb k (k + suc i) (λ e. omega (arith, e)))
    ∙ ap (λ (b : Bool). b || has (listed_from (k + 1) rs asked) (k + suc i)) (and_no (lists asked r)) ∙ ap (has (listed_from (k + 1) rs asked)) next ∙ listed-from (k + 1) i rs asked

pub listed-at : (rs : List Advisory) (asked : PackageKey) (i : ℕ) → has (listed rs asked) i ≡ lists_at rs asked i
listed-at rs asked i = let here : 0 + i ≡ i = omega arith in ap (has (listed rs asked)) (sym here) ∙ listed-from 0 i rs asked

pub or_later : (a b c : Bool) → ((a || b) || c) ≡ (a || (b || c))
or_later true b c = refl
or_later false b c = refl

-- ---- of an earlier list

module _ (asked : PackageKey) (old new : List Advisory) (moved added : List ℕ) (m : AreMoved moved added old new) (entries : Entries) where
  abbrev pub count : ℕ
  count = length new

  within-new : (j : ℕ) → lists_at new asked j ≡ true → j < count
  within-new j h = low new j h
    where
      low : (rs : List Advisory) (i : ℕ) → lists_at rs asked i ≡ true → i < length rs
      low [] i e = absurd (false≢true e)
      low (r ∷ rs) zero e = omega arith
      low (r ∷ rs) (suc i) e = let l = low rs i e in omega (arith, l)

  stays : (i j : ℕ) → slice_get moved i ≡ Some j → j < count → lists_at old asked i ≡ lists_at new asked j
  stays i j is lt = ap (λ (o : Option Advisory). option_map_or (lists asked) o false) (m.same i j is lt)

  -- what goes to a place is there
  there : (i j : ℕ) → goes_to moved count i j ≡ true → (slice_get moved i ≡ Some j) × (j < count)
  there i j h = by (slice_get moved i) refl h
    where
      by : (o : Option ℕ) → slice_get moved i ≡ o → option_map_or (λ k. nat_lt k count && eqb k j) o false ≡ true → (slice_get moved i ≡ Some j) × (j < count)
      by None is e = absurd (false≢true e)
      by (Some k) is e =
          let parts = and_parts (nat_lt k count) (eqb k j) e in
          let same : k ≡ j = eqb-true k j parts.1 in
          (is ∙ ap (λ (n : ℕ). Some n) same, subst (λ (n : ℕ). n < count) same (ltb-true k count parts.0))

  -- the entries are those of the old list
  module _ (n e : ℕ) (old_is : (i : ℕ) → list_any (is_entry n e i) entries ≡ lists_at old asked i) where
    moved-listed : (j : ℕ) → list_any (is_moved_entry moved count n e j) entries ≡ true → lists_at new asked j ≡ true
    moved-listed j h =
        let found = Any-from_list_any (is_moved_entry moved count n e j) entries h in
        let x = found.1 in
        let parts = and_parts (eqb x.0.0 n && eqb x.0.1 e) (goes_to moved count x.1 j) found.4 in
        let goes = there x.1 j parts.1 in
        sym (stays x.1 j goes.0 goes.1) ∙ sym (old_is x.1)
        ∙ list_any_at (is_entry n e x.1) entries found.0 x found.2 (ap (is_entry n e x.1) found.3 ∙ ap (λ (b : Bool). b && eqb x.1 x.1) parts.0 ∙ eq-eqb x.1 x.1 refl)

    listed-moved : (i j : ℕ) → slice_get moved i ≡ Some j → j < count → lists_at new asked j ≡ true → list_any (is_moved_entry moved count n e j) entries ≡ true
    listed-moved i j is lt h =
        let found = Any-from_list_any (is_entry n e i) entries (old_is i ∙ stays i j is lt ∙ h) in
        let x = found.1 in
        let parts = and_parts (eqb x.0.0 n && eqb x.0.1 e) (eqb x.1 i) found.4 in
        let at : x.1 ≡ i = eqb-true x.1 i parts.1 in
        list_any_at (is_moved_entry moved count n e j) entries found.0 x found.2
        (ap (is_moved_entry moved count n e j) found.3 ∙ ap (λ (b : Bool). b && goes_to moved count x.1 j) parts.0 ∙ ap (λ (k : ℕ). goes_to moved count k j) at ∙ goes moved count i j j is lt ∙ eq-eqb j j refl)

  -- what is noted of those that moved and of those that were added is what is listed
  module _ (name ecosystem : Option ℕ) (old_is : (i : ℕ) → noted_at entries name ecosystem i ≡ lists_at old asked i) where
    first-way : (n e : Option ℕ) → ((i : ℕ) → noted_at entries n e i ≡ lists_at old asked i) → (j : ℕ) → moved_at entries moved count n e j ≡ true → lists_at new asked j ≡ true
    first-way None e is j h = absurd (false≢true h)
    first-way (Some n) None is j h = absurd (false≢true h)
    first-way (Some n) (Some e) is j h = moved-listed n e is j h

    other-way : (n e : Option ℕ) → ((i : ℕ) → noted_at entries n e i ≡ lists_at old asked i) → (i j : ℕ) → slice_get moved i ≡ Some j → j < count → lists_at new asked j ≡ true
        → moved_at entries moved count n e j ≡ true
    other-way None e is i j at lt h = absurd (false≢true (is i ∙ stays i j at lt ∙ h))
    other-way (Some n) None is i j at lt h = absurd (false≢true (is i ∙ stays i j at lt ∙ h))
    other-way (Some n) (Some e) is i j at lt h = listed-moved n e is i j at lt h

    abbrev pub is_added : ℕ → ℕ → Bool
    is_added j a = lists_at new asked a && eqb a j

    added-listed : (j : ℕ) → list_any (is_added j) added ≡ true → lists_at new asked j ≡ true
    added-listed j h =
        let found = Any-from_list_any (is_added j) added h in
        let parts = and_parts (lists_at new asked found.1) (eqb found.1 j) found.4 in
        sym (ap (lists_at new asked) (eqb-true found.1 j parts.1)) ∙ parts.0

    listed-added : (j : ℕ) → is_among added j ≡ true → lists_at new asked j ≡ true → list_any (is_added j) added ≡ true
    listed-added j among h =
        let found = Any-from_list_any (λ a. eqb a j) added among in
        list_any_at (is_added j) added found.0 found.1 found.2
        (ap (is_added j) found.3 ∙ ap (λ (b : Bool). b && eqb found.1 j) (ap (lists_at new asked) (eqb-true found.1 j found.4) ∙ h) ∙ found.4)

    either : (j : ℕ) → lists_at new asked j ≡ true → (moved_at entries moved count name ecosystem j || list_any (is_added j) added) ≡ true
    either j h =
        let lt = within-new j h in
        elim (m.covered j lt) [
          | inl stayed ↦ or_left (moved_at entries moved count name ecosystem j) (list_any (is_added j) added) (other-way name ecosystem old_is stayed.0 j stayed.1 lt h)
          | inr among ↦ or_true (moved_at entries moved count name ecosystem j) (list_any (is_added j) added) (listed-added j among h)
        ]

    pub renewed : (j : ℕ) → (moved_at entries moved count name ecosystem j || list_any (is_added j) added) ≡ lists_at new asked j
    renewed j =
        elim (cases_Bool (lists_at new asked j)) [
          | inl so ↦ either j so ∙ sym so
          | inr not_so ↦
              false_from_ne_true (moved_at entries moved count name ecosystem j || list_any (is_added j) added)
              (λ h. false≢true (sym not_so ∙ elim (or_cases (moved_at entries moved count name ecosystem j) (list_any (is_added j) added) h) [
                | inl stayed ↦ first-way name ecosystem old_is j stayed
                | inr came ↦ added-listed j came
              ]))
              ∙ sym not_so
        ]
