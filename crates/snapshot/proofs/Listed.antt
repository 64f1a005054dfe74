-- The advisories that pass a test, by their indexes from one on, and those that are listed under a package.
use Rattle.std.proofs.Common.{◌≡◌, ℕ, zero, suc, ◌+◌, ◌<◌, ◌≤◌, Bool, true, false, cond, ◌&&◌, not, leb, ltb, List, [], ◌∷◌, ◌++◌, length, map, drop, get_or, All, Option, Some, None, Less, inl, inr, refl, sym, ap, subst, ◌∙◌, arith, append_assoc, length-append}
use Rattle.std.specs.Prelude.{filter, pos}
use Rattle.std.specs.List.{list_any, AllByRecursion}
use Rattle.std.specs.Option.{option_map_or}
use Rattle.std.specs.List.Sorted.{IsStrictlySortedBy, IsPartitionedBy}
use Rattle.std.specs.Ordering.{nat_cmp}
use Rattle.std.proofs.lemmas.Bool.{and_parts, or_cases, or_left, or_right, false≢true, lt-ltb, ltb-true, ltb-false, le-leb, lt-leb}
use Rattle.std.proofs.lemmas.List.Elements.{filter-append, All-nil, All-cons}
use Rattle.osv_prim.specs.declared.package.PackageKey.{PackageKey}
use Rattle.osv_record.specs.Advisories.{Advisory, Entry}
use Rattle.osv_prim.specs.Packages.{matches}
use Rattle.evaluate.specs.Hits.{affects_version, version_entry_hit}
use Rattle.package_index.specs.Listing.{has_package, lists, listed_from, listed}
use Rattle.package_index.proofs.Rising.{below}
use Rattle.repo_index.specs.Listing.{indexes_from}
use Rattle.snapshot.specs.Subjects.{is_package_hit}
use Rattle.snapshot.proofs.Joining.{twice}

-- ---- the indexes of those that pass a test, among advisories that stand behind others

module _ (test : Advisory → Bool) where
  first-here : (b : Bool) (n : ℕ) (rest : List ℕ) → cond b (n ∷ []) [] ++ rest ≡ cond b (n ∷ rest) rest
  first-here true n rest = refl
  first-here false n rest = refl

  seen-here : (none : Advisory) (xs : List Advisory) (b : Bool) (n : ℕ) (rest : List ℕ) (r : Advisory) (kept : List Advisory) → get_or xs n none ≡ r → map (λ i. get_or xs i none) rest ≡ kept
      → map (λ i. get_or xs i none) (cond b (n ∷ []) [] ++ rest) ≡ cond b (r ∷ kept) kept
  seen-here none xs true n rest r kept here later = ap (λ (x : Advisory). x ∷ map (λ i. get_or xs i none) rest) here ∙ ap (λ (ys : List Advisory). r ∷ ys) later
  seen-here none xs false n rest r kept here later = later

  at-seam : (none r : Advisory) (front rest : List Advisory) → get_or (front ++ r ∷ rest) (length front) none ≡ r
  at-seam none r [] rest = refl
  at-seam none r (x ∷ front) rest = at-seam none r front rest

  -- the advisories at these indexes are those that pass
  pub indexes-behind : (none : Advisory) (front xs whole : List Advisory) (n : ℕ) → whole ≡ front ++ xs → n ≡ length front → map (λ i. get_or whole i none) (indexes_from test n xs) ≡ filter test xs
  indexes-behind none front [] whole n is at = refl
  indexes-behind none front (r ∷ xs) whole n is at =
      seen-here none whole (test r) n (indexes_from test (n + 1) xs) r (filter test xs)
      (ap (λ (ys : List Advisory). get_or ys n none) is ∙ ap (λ (k : ℕ). get_or (front ++ r ∷ xs) k none) at ∙ at-seam none r front xs)
      (indexes-behind none (front ++ r ∷ []) xs whole (n + 1) (is ∙ sym (append_assoc front (r ∷ []) xs)) (omega (arith, at, length-append front (r ∷ []))))

  pub indexes-both : (n : ℕ) (front xs : List Advisory) → indexes_from test n (front ++ xs) ≡ indexes_from test n front ++ indexes_from test (n + length front) xs
  indexes-both n [] xs = ap (λ (k : ℕ). indexes_from test k xs) (omega arith)
  indexes-both n (r ∷ front) xs =
      ap (λ (ys : List ℕ). cond (test r) (n ∷ []) [] ++ ys) (indexes-both (n + 1) front xs ∙ ap (λ (k : ℕ). indexes_from test (n + 1) front ++ indexes_from test k xs) (omega arith))
      ∙ sym (append_assoc (cond (test r) (n ∷ []) []) (indexes_from test (n + 1) front) (indexes_from test (n + length (r ∷ front)) xs))

  one-passes : (P : ℕ → Type 0) (b : Bool) (n : ℕ) (rest : List ℕ) → (b ≡ true → P n) → All P rest → All P (cond b (n ∷ []) [] ++ rest)
  one-passes P true n rest here later = All-cons P n rest (here refl) later
  one-passes P false n rest here later = later

  -- and each of them passes
  pub indexes-pass : (none : Advisory) (front xs whole : List Advisory) (n : ℕ) → whole ≡ front ++ xs → n ≡ length front → All (λ i. test (get_or whole i none) ≡ true) (indexes_from test n xs)
  indexes-pass none front [] whole n is at = All-nil (λ i. test (get_or whole i none) ≡ true)
  indexes-pass none front (r ∷ xs) whole n is at =
      let here : get_or whole n none ≡ r = ap (λ (ys : List Advisory). get_or ys n none) is ∙ ap (λ (k : ℕ). get_or (front ++ r ∷ xs) k none) at ∙ at-seam none r front xs in
      one-passes (λ i. test (get_or whole i none) ≡ true) (test r) n (indexes_from test (n + 1) xs) (λ t. ap test here ∙ t)
      (indexes-pass none (front ++ r ∷ []) xs whole (n + 1) (is ∙ sym (append_assoc front (r ∷ []) xs)) (omega (arith, at, length-append front (r ∷ []))))

  -- ---- bounds

  abbrev Between : ℕ → ℕ → List ℕ → Type 0
  Between low high xs = AllByRecursion (λ i. (low ≤ i) × (i < high)) xs

  wider : (low high : ℕ) (xs : List ℕ) → Between (low + 1) high xs → Between low high xs
  wider low high [] all = tt
  wider low high (x ∷ xs) all = ((omega (arith, all.0.0), all.0.1), wider low high xs all.1)

  one-between : (b : Bool) (n high : ℕ) (xs : List ℕ) → n < high → Between (n + 1) high xs → Between n high (cond b (n ∷ []) [] ++ xs)
  one-between true n high xs lt all = ((omega arith, lt), wider n high xs all)
  one-between false n high xs lt all = wider n high xs all

  indexes-between : (n high : ℕ) (xs : List Advisory) → n + length xs ≤ high → Between n high (indexes_from test n xs)
  indexes-between n high [] le = tt
  indexes-between n high (r ∷ xs) le = one-between (test r) n high (indexes_from test (n + 1) xs) (omega (arith, le)) (indexes-between (n + 1) high xs (omega (arith, le)))

  within : (low high : ℕ) (xs : List ℕ) → Between low high xs → All (λ i. i < high) xs
  within low high [] all j d lt = absurd (omega (arith, lt))
  within low high (x ∷ xs) all zero d lt = all.0.1
  within low high (x ∷ xs) all (suc j) d lt = within low high xs all.1 j d (omega (arith, lt))

  pub indexes-within : (n high : ℕ) (xs : List Advisory) → n + length xs ≤ high → All (λ i. i < high) (indexes_from test n xs)
  indexes-within n high xs le = within n high (indexes_from test n xs) (indexes-between n high xs le)

  none-from : (low high start : ℕ) (xs : List ℕ) → high ≤ start → Between low high xs → filter (λ i. leb start i) xs ≡ []
  none-from low high start [] le all = refl
  none-from low high start (x ∷ xs) le all =
      ap (λ (b : Bool). cond b (x ∷ filter (λ i. leb start i) xs) (filter (λ i. leb start i) xs)) (lt-leb start x (omega (arith, le, all.0.1))) ∙ none-from low high start xs le all.1

  all-from : (low high start : ℕ) (xs : List ℕ) → start ≤ low → Between low high xs → filter (λ i. leb start i) xs ≡ xs
  all-from low high start [] le all = refl
  all-from low high start (x ∷ xs) le all =
      ap (λ (b : Bool). cond b (x ∷ filter (λ i. leb start i) xs) (filter (λ i. leb start i) xs)) (le-leb start x (omega (arith, le, all.0.0))) ∙ ap (λ (ys : List ℕ). x ∷ ys) (all-from low high start xs le all.1)

  -- those from the seam on
  pub from-seam : (front xs whole : List Advisory) → whole ≡ front ++ xs → filter (λ i. leb (length front) i) (indexes_from test 0 whole) ≡ indexes_from test (length front) xs
  from-seam front xs whole is =
      let n = length front in
      ap (λ (ys : List Advisory). filter (λ i. leb n i) (indexes_from test 0 ys)) is ∙ ap (filter (λ i. leb n i)) (indexes-both 0 front xs)
      ∙ filter-append (λ i. leb n i) (indexes_from test 0 front) (indexes_from test (0 + n) xs)
      ∙ ap (λ (ys : List ℕ). ys ++ filter (λ i. leb n i) (indexes_from test (0 + n) xs)) (none-from 0 n n (indexes_from test 0 front) (omega arith) (indexes-between 0 n front (omega arith)))
      ∙ all-from (0 + n) (0 + n + length xs) n (indexes_from test (0 + n) xs) (omega arith) (indexes-between (0 + n) (0 + n + length xs) xs (omega arith))
      ∙ ap (λ (k : ℕ). indexes_from test k xs) (omega arith)

  fewer-here : (b : Bool) (n count : ℕ) (xs : List ℕ) → length xs ≤ count → length (cond b (n ∷ []) [] ++ xs) ≤ suc count
  fewer-here true n count xs le = omega (arith, le)
  fewer-here false n count xs le = omega (arith, le)

  pub indexes-fewer : (n : ℕ) (xs : List Advisory) → length (indexes_from test n xs) ≤ length xs
  indexes-fewer n [] = omega arith
  indexes-fewer n (r ∷ xs) = fewer-here (test r) n (length xs) (indexes_from test (n + 1) xs) (indexes-fewer (n + 1) xs)

  -- the indexes in the end of some advisories, where each hit passes
  pub indexes-end : (h : Advisory → Bool) → ((r : Advisory) → h r ≡ true → test r ≡ true) → (none : Advisory) (front above all : List Advisory) → all ≡ front ++ above
      → (indexes : List ℕ) → indexes ≡ filter (λ i. leb (length front) i) (indexes_from test 0 all)
      → All (λ i. i < length all) indexes × (filter h (map (λ i. get_or all i none) indexes) ≡ filter h above) × (length indexes ≤ length (indexes_from test 0 all))
      × All (λ i. test (get_or all i none) ≡ true) indexes
  indexes-end h passes none front above all is indexes are =
      let n = length front in
      let here : indexes ≡ indexes_from test n above = are ∙ from-seam front above all is in
      let long : length all ≡ n + length above = ap (λ (ys : List Advisory). length ys) is ∙ length-append front above in
      let whole : indexes_from test 0 all ≡ indexes_from test 0 front ++ indexes_from test (0 + n) above = ap (indexes_from test 0) is ∙ indexes-both 0 front above in
      let same : 0 + n ≡ n = omega arith in (
        subst (λ (is : List ℕ). All (λ i. i < length all) is) (sym here) (indexes-within n (length all) above (omega (arith, long))),
        ap (λ (is : List ℕ). filter h (map (λ i. get_or all i none) is)) here ∙ ap (filter h) (indexes-behind none front above all n is refl) ∙ twice test h passes above,
        omega (arith, ap (λ (is : List ℕ). length is) here, ap (λ (is : List ℕ). length is) whole, length-append (indexes_from test 0 front) (indexes_from test (0 + n) above), ap (λ (k : ℕ). length (indexes_from test k above)) same),
        subst (λ (is : List ℕ). All (λ i. test (get_or all i none) ≡ true) is) (sym here) (indexes-pass none front above all n is refl),
      )

module _ (asked : PackageKey) where
  -- ---- a hit is listed

  entry-lists : (version : Option (List ℕ)) (key : Option PackageKey) (e : Entry) → e.«package» ≡ key → version_entry_hit asked version e ≡ true → has_package asked e.«package» ≡ true
  entry-lists version None e is hit =
      absurd (false≢true (ap (λ (k : Option PackageKey). option_map_or (λ key. matches key asked && affects_version key.ecosystem version e) k false) (sym is) ∙ hit))
  entry-lists version (Some key) e is hit =
      ap (has_package asked) is
      ∙ (and_parts (matches key asked) (affects_version key.ecosystem version e)
      (ap (λ (k : Option PackageKey). option_map_or (λ key. matches key asked && affects_version key.ecosystem version e) k false) (sym is) ∙ hit)).0

  any-lists : (version : Option (List ℕ)) (es : List Entry) → list_any (version_entry_hit asked version) es ≡ true → list_any (λ a. has_package asked a.«package») es ≡ true
  any-lists version [] hit = hit
  any-lists version (e ∷ es) hit =
      let here = has_package asked e.«package» in
      let later = list_any (λ (a : Entry). has_package asked a.«package») es in
      elim (or_cases (version_entry_hit asked version e) (list_any (version_entry_hit asked version) es) hit) [
        | inl now ↦ or_left here later (entry-lists version e.«package» e refl now)
        | inr then ↦ or_right here later (any-lists version es then)
      ]

  pub hit-lists : (version : Option (List ℕ)) (r : Advisory) → is_package_hit asked version r ≡ true → lists asked r ≡ true
  hit-lists version r hit = any-lists version r.affected (and_parts (not r.withdrawn) (list_any (version_entry_hit asked version) r.affected) hit).1

  listed-indexes : (n : ℕ) (rs : List Advisory) → listed_from n rs asked ≡ indexes_from (lists asked) n rs
  listed-indexes n [] = refl
  listed-indexes n (r ∷ rs) = ap (λ (ys : List ℕ). cond (lists asked r) (n ∷ []) [] ++ ys) (listed-indexes (n + 1) rs)

  pub listed-fewer : (n : ℕ) (xs : List Advisory) → length (listed_from n xs asked) ≤ length xs
  listed-fewer n xs = omega (arith, ap (λ (ys : List ℕ). length ys) (listed-indexes n xs), indexes-fewer (lists asked) n xs)

  -- what is listed of the end of some advisories
  pub listed-end : (version : Option (List ℕ)) (none : Advisory) (front above all : List Advisory) → all ≡ front ++ above → (indexes : List ℕ) → indexes ≡ filter (λ i. leb (length front) i) (listed all asked)
      → All (λ i. i < length all) indexes × (filter (is_package_hit asked version) (map (λ i. get_or all i none) indexes) ≡ filter (is_package_hit asked version) above) × (length indexes ≤ length (listed all asked))
  listed-end version none front above all is indexes are =
      let r = indexes-end (lists asked) (is_package_hit asked version) (hit-lists version) none front above all is indexes (are ∙ ap (filter (λ i. leb (length front) i)) (listed-indexes 0 all)) in
      (r.0, r.1, omega (arith, r.2, ap (λ (ys : List ℕ). length ys) (listed-indexes 0 all)))

-- ---- numbers that ascend

at : (P : ℕ → Type 0) (xs : List ℕ) → AllByRecursion P xs → (j d : ℕ) → j < length xs → P (get_or xs j d)
at P [] all j d lt = absurd (omega (arith, lt))
at P (x ∷ xs) all zero d lt = all.0
at P (x ∷ xs) all (suc j) d lt = at P xs all.1 j d (omega (arith, lt))

pub parted : (start : ℕ) (xs : List ℕ) → IsStrictlySortedBy nat_cmp xs → IsPartitionedBy (λ i. ltb i start) xs
unfolding IsStrictlySortedBy
parted start [] up i j d le lt t = absurd (omega (arith, lt))
parted start (x ∷ xs) up zero zero d le lt t = t
parted start (x ∷ xs) up zero (suc j) d le lt t =
    let low : x < get_or xs j d = below x (get_or xs j d) (at (λ y. nat_cmp x y ≡ Less) xs up.0 j d (omega (arith, lt))) in
    lt-ltb x start (omega (arith, low, ltb-true (get_or xs j d) start t))
parted start (x ∷ xs) up (suc i) zero d le lt t = absurd (omega (arith, le))
parted start (x ∷ xs) up (suc i) (suc j) d le lt t = parted start xs up.1 i j d (omega (arith, le)) (omega (arith, lt)) t

-- what stands behind the last that passes is what doesn't pass
pub from-point : (start : ℕ) (xs : List ℕ) (n : ℕ) → ((i d : ℕ) → i < n → ltb (get_or xs i d) start ≡ true) → ((i d : ℕ) → n ≤ i → i < length xs → ltb (get_or xs i d) start ≡ false)
    → drop n xs ≡ filter (λ i. leb start i) xs
from-point start [] zero front back = refl
from-point start [] (suc n) front back = refl
from-point start (x ∷ xs) zero front back =
    ap (λ (ys : List ℕ). x ∷ ys) (from-point start xs zero (λ i d lt. absurd (omega (arith, lt))) (λ i d low lt. back (suc i) d (omega arith) (omega (arith, lt))))
    ∙ sym (ap (λ (b : Bool). cond b (x ∷ filter (λ i. leb start i) xs) (filter (λ i. leb start i) xs)) (le-leb start x (ltb-false x start (back 0 x (omega arith) (omega arith)))))
from-point start (x ∷ xs) (suc n) front back =
    from-point start xs n (λ i d lt. front (suc i) d (omega (arith, lt))) (λ i d low lt. back (suc i) d (omega (arith, low)) (omega (arith, lt)))
    ∙ sym (ap (λ (b : Bool). cond b (x ∷ filter (λ i. leb start i) xs) (filter (λ i. leb start i) xs)) (lt-leb start x (ltb-true x start (front 0 x (omega arith)))))

-- an advisory of nothing, which stands where none is
pub nothing : Advisory
nothing = record { id = []; modified = pos 0; modified_text = []; withdrawn = false; affected = []; text = [] }
