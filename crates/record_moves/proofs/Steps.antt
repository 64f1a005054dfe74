-- One advisory more, that stays, is gone or is added.
use Rattle.std.proofs.Common.{◌≡◌, ℕ, zero, suc, ◌+◌, ◌<◌, ◌≤◌, inl, inr, Bool, true, false, ◌||◌, eqb, List, [], ◌∷◌, ◌++◌, length, refl, sym, ap, ◌∙◌, append_assoc, arith}
use Rattle.std.specs.Prelude.{◌⊎◌, Some, None, slice_get}
use Rattle.std.proofs.lemmas.Bool.{cases_eq, eq-eqb, eqb-true, or_cases, false≢true}
use Rattle.std.proofs.lemmas.List.{length-append}
use Rattle.std.proofs.lemmas.List.Folds.{list_any-append}
use Rattle.osv_record.specs.Advisories.{Advisory}
use Rattle.record_moves.specs.Moved.{gone, is_among, AreMoved}

-- ---- members by their places

none-some : {X : Type 0} (x : X) → None ≡ Some x → ⊥
none-some x e = cc

pub get-within : {X : Type 0} (xs : List X) (i : ℕ) (x : X) → slice_get xs i ≡ Some x → i < length xs
get-within [] i x h = absurd (none-some x h)
get-within (y ∷ xs) zero x h = omega arith
get-within (y ∷ xs) (suc i) x h = let l : i < length xs = get-within xs i x h in omega (arith, l)

pub get-before : {X : Type 0} (xs ys : List X) (i : ℕ) → i < length xs → slice_get (xs ++ ys) i ≡ slice_get xs i
get-before [] ys i lt = absurd (omega arith)
get-before (x ∷ xs) ys zero lt = refl
get-before (x ∷ xs) ys (suc i) lt = get-before xs ys i (omega arith)

pub get-at : {X : Type 0} (xs : List X) (y : X) → slice_get (xs ++ y ∷ []) (length xs) ≡ Some y
get-at [] y = refl
get-at (x ∷ xs) y = get-at xs y

some-same : {X : Type 0} (x y : X) → Some x ≡ Some y → x ≡ y
some-same x y e = cc

pub get-push : {X : Type 0} (xs : List X) (y : X) (i : ℕ) (x : X) → slice_get (xs ++ y ∷ []) i ≡ Some x → (slice_get xs i ≡ Some x) ⊎ ((i ≡ length xs) × (x ≡ y))
get-push [] y zero x h = inr (refl, sym (some-same y x h))
get-push [] y (suc i) x h = absurd (none-some x h)
get-push (z ∷ xs) y zero x h = inl h
get-push (z ∷ xs) y (suc i) x h =
    elim (get-push xs y i x h) [
      | inl there ↦ inl there
      | inr last ↦ inr (ap suc last.0, last.1)
    ]

length-push : {X : Type 0} (xs : List X) (y : X) → length (xs ++ y ∷ []) ≡ length xs + 1
length-push xs y = length-append xs (y ∷ [])

-- ---- the last of some

pub none-long : {X : Type 0} (xs : List X) → length xs ≡ 0 → xs ≡ []
none-long [] h = refl
none-long (x ∷ xs) h = absurd (omega (arith, h))

pub record Parted {X : Type 0} (xs : List X) (n : ℕ) : Type 0 where
  pub first : List X
  pub last : X
  pub count : length first ≡ n
  pub whole : xs ≡ first ++ last ∷ []

pub last-parted : {X : Type 0} (xs : List X) (n : ℕ) → length xs ≡ n + 1 → Parted xs n
last-parted [] n h = absurd (omega (arith, h))
last-parted (x ∷ []) zero h = record { first = []; last = x; count = refl; whole = refl }
last-parted (x ∷ []) (suc n) h = absurd (omega (arith, h))
last-parted (x ∷ y ∷ xs) zero h = absurd (omega (arith, h))
last-parted (x ∷ y ∷ xs) (suc n) h =
    let p = last-parted (y ∷ xs) n (omega (arith, h)) in
    record { first = x ∷ p.first; last = p.last; count = ap suc p.count; whole = ap (λ (zs : List _). x ∷ zs) p.whole }

pub behind : {X : Type 0} (front xs : List X) (n : ℕ) (p : Parted xs n) → (front ++ p.first) ++ p.last ∷ [] ≡ front ++ xs
behind front xs n p = append_assoc front p.first (p.last ∷ []) ∙ sym (ap (λ (zs : List _). front ++ zs) p.whole)

-- ---- steps

module _ (moved added : List ℕ) (old new : List Advisory) (m : AreMoved moved added old new) (r : Advisory) where
  pub kept : (place : ℕ) → place ≡ length new → place < gone → AreMoved (moved ++ place ∷ []) added (old ++ r ∷ []) (new ++ r ∷ [])
  kept place is low =
      let long = length-push new r in
      record {
        size = length-push moved place ∙ ap (λ (n : ℕ). n + 1) m.size ∙ sym (length-push old r);
        places = λ i j h.
            elim (get-push moved place i j h) [
              | inl there ↦
                  elim (m.places i j there) [
                    | inl lt ↦ inl (omega (arith, lt, long))
                    | inr end ↦ inr end
                  ]
              | inr last ↦ inl (omega (arith, last.1, is, long))
            ];
        same = λ i j h lt.
            elim (get-push moved place i j h) [
              | inl there ↦
                  elim (m.places i j there) [
                    | inl low_j ↦
                        let within : i < length old = omega (arith, get-within moved i j there, m.size) in
                        get-before old (r ∷ []) i within ∙ m.same i j there low_j ∙ sym (get-before new (r ∷ []) j low_j)
                    | inr end ↦ absurd (omega (arith, end, lt, long, is, low))
                  ]
              | inr last ↦
                  ap (slice_get (old ++ r ∷ [])) (last.0 ∙ m.size) ∙ get-at old r ∙ sym (ap (slice_get (new ++ r ∷ [])) (last.1 ∙ is) ∙ get-at new r)
            ];
        covered = λ j lt.
            elim (cases_eq j (length new)) [
              | inl at ↦ inl (length moved, get-at moved place ∙ ap (λ (n : ℕ). Some n) (is ∙ sym at))
              | inr other ↦
                  elim (m.covered j (omega (arith, lt, long, other))) [
                    | inl there ↦ inl (there.0, get-before moved (place ∷ []) there.0 (get-within moved there.0 j there.1) ∙ there.1)
                    | inr here ↦ inr here
                  ]
            ];
        within = λ j h. omega (arith, m.within j h, long);
      }

  pub dropped : length new ≤ gone → AreMoved (moved ++ gone ∷ []) added (old ++ r ∷ []) new
  dropped le =
      record {
        size = length-push moved gone ∙ ap (λ (n : ℕ). n + 1) m.size ∙ sym (length-push old r);
        places = λ i j h.
            elim (get-push moved gone i j h) [
              | inl there ↦ m.places i j there
              | inr last ↦ inr last.1
            ];
        same = λ i j h lt.
            elim (get-push moved gone i j h) [
              | inl there ↦
                  let within : i < length old = omega (arith, get-within moved i j there, m.size) in
                  get-before old (r ∷ []) i within ∙ m.same i j there lt
              | inr last ↦ absurd (omega (arith, last.1, lt, le))
            ];
        covered = λ j lt.
            elim (m.covered j lt) [
              | inl there ↦ inl (there.0, get-before moved (gone ∷ []) there.0 (get-within moved there.0 j there.1) ∙ there.1)
              | inr here ↦ inr here
            ];
        within = m.within;
      }

  pub one-added : (place : ℕ) → place ≡ length new → place < gone → AreMoved moved (added ++ place ∷ []) old (new ++ r ∷ [])
  one-added place is low =
      let long = length-push new r in
      record {
        size = m.size;
        places = λ i j h.
            elim (m.places i j h) [
              | inl lt ↦ inl (omega (arith, lt, long))
              | inr end ↦ inr end
            ];
        same = λ i j h lt.
            elim (m.places i j h) [
              | inl low_j ↦ m.same i j h low_j ∙ sym (get-before new (r ∷ []) j low_j)
              | inr end ↦ absurd (omega (arith, end, lt, long, is, low))
            ];
        covered = λ j lt.
            elim (cases_eq j (length new)) [
              | inl at ↦ inr (last-among j at)
              | inr other ↦
                  elim (m.covered j (omega (arith, lt, long, other))) [
                    | inl there ↦ inl there
                    | inr here ↦ inr (list_any-append (λ a. eqb a j) added (place ∷ []) ∙ ap (λ (b : Bool). b || is_among (place ∷ []) j) here)
                  ]
            ];
        within = λ j h.
            elim (or_cases (is_among added j) (is_among (place ∷ []) j) (sym (list_any-append (λ a. eqb a j) added (place ∷ [])) ∙ h)) [
              | inl before ↦ omega (arith, m.within j before, long)
              | inr last ↦
                  elim (or_cases (eqb place j) false last) [
                    | inl at ↦ omega (arith, eqb-true place j at, is, long)
                    | inr nothing ↦ absurd (false≢true nothing)
                  ]
            ];
      }
    where
      or-true : (a : Bool) → (a || true) ≡ true
      or-true true = refl
      or-true false = refl

      last-among : (j : ℕ) → j ≡ length new → is_among (added ++ place ∷ []) j ≡ true
      last-among j at =
          list_any-append (λ a. eqb a j) added (place ∷ []) ∙ ap (λ (b : Bool). is_among added j || (b || false)) (eq-eqb place j (is ∙ sym at)) ∙ or-true (is_among added j)
