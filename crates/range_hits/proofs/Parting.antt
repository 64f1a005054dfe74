-- The forms of an entry's ranges, and those of later entries.
use Rattle.std.proofs.Common.{◌≡◌, ℕ, zero, suc, ◌+◌, ◌<◌, ◌≤◌, Some, List, [], ◌∷◌, ◌++◌, length, map, take, drop, get_or, refl, sym, ap, subst, ◌∙◌, append-nil, append_assoc, arith}
use Rattle.std.specs.List.{AllZip}
use Rattle.std.proofs.lemmas.List.{take_all}
use Rattle.osv_prim.specs.declared.package.PackageKey.{PackageKey}
use Rattle.osv_record.specs.Advisories.{Entry, Extent}
use Rattle.range_hits.specs.declared.form.CompiledRange.{CompiledRange}
use Rattle.range_hits.specs.Forms.{IsFormIn, IsFormOf, Ranged, with_package, ranges_of}

module _ {A B : Type 0} (R : A → B → Type 0) where
  pub zip-both : (xs more : List A) (ys zs : List B) → AllZip R xs ys → AllZip R more zs → AllZip R (xs ++ more) (ys ++ zs)
  zip-both [] more [] zs own later = later
  zip-both [] more (y ∷ ys) zs own later = absurd own
  zip-both (x ∷ xs) more [] zs own later = absurd own
  zip-both (x ∷ xs) more (y ∷ ys) zs own later = (own.0, zip-both xs more ys zs own.1 later)

  pub zip-parts : (xs more : List A) (ys : List B) (n : ℕ) → n ≡ length xs → AllZip R (xs ++ more) ys → AllZip R xs (take n ys) × AllZip R more (drop n ys)
  zip-parts [] more ys zero is all = (tt, all)
  zip-parts [] more ys (suc n) is all = absurd (omega (arith, is))
  zip-parts (x ∷ xs) more [] n is all = absurd all
  zip-parts (x ∷ xs) more (y ∷ ys) zero is all = absurd (omega (arith, is))
  zip-parts (x ∷ xs) more (y ∷ ys) (suc n) is all =
      let later = zip-parts xs more ys n (omega (arith, is)) all.1 in ((all.0, later.0), later.1)

  -- the first members of two lists
  pub record First (xs : List A) (y : B) (others : List B) : Type 0 where
    pub first : A
    pub later : List A
    pub whole : xs ≡ first ∷ later
    pub stands : R first y
    pub rest : AllZip R later others

  pub zip-first : (xs : List A) (ys : List B) (y d : B) (n : ℕ) → 1 ≤ length ys → y ≡ get_or ys 0 d → length ys ≤ n + 1 → AllZip R xs ys → First xs y (take n (drop 1 ys))
  zip-first [] [] y d n some is fits all = absurd (omega (arith, some))
  zip-first [] (z ∷ ys) y d n some is fits all = absurd all
  zip-first (x ∷ xs) [] y d n some is fits all = absurd all
  zip-first (x ∷ xs) (z ∷ ys) y d n some is fits all =
      record { first = x; later = xs; whole = refl; stands = subst (R x) (sym is) all.0; rest = subst (AllZip R xs) (sym (take_all n ys (omega (arith, fits)))) all.1 }

  pub zip-none : (xs : List A) (ys : List B) → length ys < 1 → AllZip R xs ys → xs ≡ []
  zip-none [] ys none all = refl
  zip-none (x ∷ xs) [] none all = absurd all
  zip-none (x ∷ xs) (y ∷ ys) none all = absurd (omega (arith, none))

pub first-rest : {X : Type 0} (ys : List X) (y d : X) → 1 ≤ length ys → y ≡ get_or ys 0 d → ys ≡ y ∷ drop 1 ys
first-rest [] y d some is = absurd (omega (arith, some))
first-rest (z ∷ ys) y d some is = ap (λ (x : _). x ∷ ys) (sym is)

-- the forms of ranges of a package
pub zip-own : (key : PackageKey) (xs : List Extent) (forms : List CompiledRange) → AllZip IsFormIn (with_package (Some key) xs) forms → AllZip (IsFormOf key.ecosystem) xs forms
zip-own key [] forms all = all
zip-own key (x ∷ xs) [] all = all
zip-own key (x ∷ xs) (f ∷ forms) all = (all.0, zip-own key xs forms all.1)

pub ranges-push : (entries : List Entry) (entry : Entry) → ranges_of (entries ++ entry ∷ []) ≡ ranges_of entries ++ with_package entry.«package» entry.ranges
ranges-push [] entry = append-nil (with_package entry.«package» entry.ranges)
ranges-push (first ∷ entries) entry =
    ap (λ (xs : List Ranged). with_package first.«package» first.ranges ++ xs) (ranges-push entries entry)
    ∙ sym (append_assoc (with_package first.«package» first.ranges) (ranges_of entries) (with_package entry.«package» entry.ranges))
