-- The release and the epoch of a normal spelling.
use Rattle.std.proofs.Common.{◌≡◌, ℕ, Bool, true, false, not, ◌&&◌, ◌||◌, List, [], ◌∷◌, ◌++◌, Option, Some, None, refl, ap, ◌∙◌, append_assoc, arith, inl, inr}
use Rattle.std.proofs.lemmas.Bool.{and_from, and_parts, and_right, cases_Bool, not-true, or_cases, or_left, or_right}
use Rattle.std.proofs.lemmas.Bool.Decides.{nat_tests}
use Rattle.std.specs.Char.{is_ascii_digit}
use Rattle.osv_prim.specs.Digits.{all_digits, behind_digits, is_dot}
use Rattle.order_pypi.specs.declared.word.PreWord.{PreWord}
use Rattle.order_pypi.specs.declared.word.PreWord.TheVariants.{Alpha, Beta, Candidate}
use Rattle.order_pypi.specs.Grammar.{behind_epoch, behind_release, epoch_of, has_epoch, is_bang, release_of, starts, tail}
use Rattle.order_pypi.specs.Spelling.{dev_spelling, epoch_spelling, local_spelling, post_spelling, pre_spelling}
use Rattle.order_pypi.proofs.SpelledWords.{behind_all, front_all}

-- ---- the release

-- no release goes on into the text
abbrev pub ends : List ℕ → Bool
ends [] = true
ends (c ∷ cs) = not (is_ascii_digit c || (is_dot c && starts is_ascii_digit cs))

pub local_stops : (l : List ℕ) → ends (local_spelling l) ≡ true
local_stops [] = refl
local_stops (c ∷ cs) = refl

pub dev_stops : (dev : Option (List ℕ)) (l : List ℕ) → ends (dev_spelling dev ++ local_spelling l) ≡ true
dev_stops None l = local_stops l
dev_stops (Some ds) l = refl

pub post_stops : (post dev : Option (List ℕ)) (l : List ℕ) → ends (post_spelling post ++ (dev_spelling dev ++ local_spelling l)) ≡ true
post_stops None dev l = dev_stops dev l
post_stops (Some ds) dev l = refl

pub pre_stops : (pre : Option (PreWord × List ℕ)) (post dev : Option (List ℕ)) (l : List ℕ) → ends (pre_spelling pre ++ (post_spelling post ++ (dev_spelling dev ++ local_spelling l))) ≡ true
pre_stops None post dev l = post_stops post dev l
pre_stops (Some (Alpha, ds)) post dev l = refl
pre_stops (Some (Beta, ds)) post dev l = refl
pre_stops (Some (Candidate, ds)) post dev l = refl

pub pre_no_bang : (pre : Option (PreWord × List ℕ)) (post dev : Option (List ℕ)) (l : List ℕ) → starts is_bang (behind_digits (pre_spelling pre ++ (post_spelling post ++ (dev_spelling dev ++ local_spelling l)))) ≡ false
unfolding behind_digits
pre_no_bang None None None [] = refl
pre_no_bang None None None (c ∷ cs) = refl
pre_no_bang None None (Some ds) l = refl
pre_no_bang None (Some ds) dev l = refl
pre_no_bang (Some (Alpha, ds)) post dev l = refl
pre_no_bang (Some (Beta, ds)) post dev l = refl
pre_no_bang (Some (Candidate, ds)) post dev l = refl

pub starts_more : (p : ℕ → Bool) (cs s : List ℕ) → starts p cs ≡ true → starts p (cs ++ s) ≡ true
starts_more p [] s e = absurd cc
starts_more p (c ∷ cs) s e = e

pub goes_on : (c : ℕ) (cs s : List ℕ) → (is_ascii_digit c || (is_dot c && starts is_ascii_digit cs)) ≡ true → (is_ascii_digit c || (is_dot c && starts is_ascii_digit (cs ++ s))) ≡ true
goes_on c cs s e = elim (or_cases (is_ascii_digit c) (is_dot c && starts is_ascii_digit cs) e) [
  | inl digit ↦ or_left (is_ascii_digit c) (is_dot c && starts is_ascii_digit (cs ++ s)) digit
  | inr dot ↦
      let h = and_parts (is_dot c) (starts is_ascii_digit cs) dot in
      or_right (is_ascii_digit c) (is_dot c && starts is_ascii_digit (cs ++ s)) (and_from (is_dot c) (starts is_ascii_digit (cs ++ s)) h.0 (starts_more is_ascii_digit cs s h.1))
]

-- one byte of a release
module _ (c : ℕ) (cs : List ℕ) (e : release_of (c ∷ cs) ≡ c ∷ cs) where
  pub is_kept : (is_ascii_digit c || (is_dot c && starts is_ascii_digit cs)) ≡ true
  unfolding release_of
  is_kept = elim (cases_Bool (is_ascii_digit c || (is_dot c && starts is_ascii_digit cs))) [
    | inl there ↦ there
    | inr gone ↦ let none : [] ≡ c ∷ cs = rw gone at e in absurd cc
  ]

  pub rest_kept : release_of cs ≡ cs
  unfolding release_of
  rest_kept = let there = is_kept in ap tail (rw there at e)

pub release_reads : (r s : List ℕ) → release_of r ≡ r → ends s ≡ true → release_of (r ++ s) ≡ r
unfolding release_of
release_reads [] [] e n = refl
release_reads [] (c ∷ cs) e n = let gone = not-true (is_ascii_digit c || (is_dot c && starts is_ascii_digit cs)) n in rw gone refl
release_reads (c ∷ cs) s e n =
    let there = goes_on c cs s (is_kept c cs e) in
    rw there (ap (λ (x : List ℕ). c ∷ x) (release_reads cs s (rest_kept c cs e) n))

pub release_ends : (r s : List ℕ) → release_of r ≡ r → ends s ≡ true → behind_release (r ++ s) ≡ s
unfolding behind_release
release_ends [] [] e n = refl
release_ends [] (c ∷ cs) e n = let gone = not-true (is_ascii_digit c || (is_dot c && starts is_ascii_digit cs)) n in rw gone refl
release_ends (c ∷ cs) s e n =
    let there = goes_on c cs s (is_kept c cs e) in
    rw there (release_ends cs s (rest_kept c cs e) n)

-- ---- the epoch

pub dot_no_bang : (c : ℕ) → is_dot c ≡ true → is_bang c ≡ false
dot_no_bang c e = grind (arith, nat_tests)

pub release_no_bang : (r s : List ℕ) → release_of r ≡ r → starts is_bang (behind_digits s) ≡ false → starts is_bang (behind_digits (r ++ s)) ≡ false
unfolding behind_digits
release_no_bang [] s e n = n
release_no_bang (c ∷ cs) s e n = elim (cases_Bool (is_ascii_digit c)) [
  | inl digit ↦ rw digit (release_no_bang cs s (rest_kept c cs e) n)
  | inr other ↦
      let kept : (is_dot c && starts is_ascii_digit cs) ≡ true = rw other at (is_kept c cs e) in
      rw other (dot_no_bang c (and_parts (is_dot c) (starts is_ascii_digit cs) kept).0)
]

-- digits and `!`
module _ (d : ℕ) (ds text : List ℕ) (e : all_digits (d ∷ ds) ≡ true) where
  pub regrouped : epoch_spelling (d ∷ ds) ++ text ≡ (d ∷ ds) ++ 33 ∷ text
  regrouped = append_assoc (d ∷ ds) (33 ∷ []) text

  pub is_there : has_epoch ((d ∷ ds) ++ 33 ∷ text) ≡ true
  is_there =
      and_from (is_ascii_digit d) (starts is_bang (behind_digits ((d ∷ ds) ++ 33 ∷ text))) (and_parts (is_ascii_digit d) (all_digits ds) e).0
      (ap (starts is_bang) (behind_all (d ∷ ds) (33 ∷ text) e refl))

  pub front_there : epoch_of ((d ∷ ds) ++ 33 ∷ text) ≡ d ∷ ds
  unfolding epoch_of
  front_there = let there = is_there in rw there (front_all (d ∷ ds) (33 ∷ text) e refl)

  pub end_there : behind_epoch ((d ∷ ds) ++ 33 ∷ text) ≡ text
  unfolding behind_epoch
  end_there = let there = is_there in rw there (ap tail (behind_all (d ∷ ds) (33 ∷ text) e refl))

pub has_none : (text : List ℕ) → starts is_bang (behind_digits text) ≡ false → has_epoch text ≡ false
has_none text n = and_right (starts is_ascii_digit text) (starts is_bang (behind_digits text)) n

pub epoch_reads : (epoch text : List ℕ) → all_digits epoch ≡ true → starts is_bang (behind_digits text) ≡ false → epoch_of (epoch_spelling epoch ++ text) ≡ epoch
unfolding epoch_of
epoch_reads [] text e n = let none = has_none text n in rw none refl
epoch_reads (d ∷ ds) text e n = ap epoch_of (regrouped d ds text e) ∙ front_there d ds text e

pub epoch_ends : (epoch text : List ℕ) → all_digits epoch ≡ true → starts is_bang (behind_digits text) ≡ false → behind_epoch (epoch_spelling epoch ++ text) ≡ text
unfolding behind_epoch
epoch_ends [] text e n = let none = has_none text n in rw none refl
epoch_ends (d ∷ ds) text e n = ap behind_epoch (regrouped d ds text e) ∙ end_there d ds text e

pub epoch_begins : (epoch text : List ℕ) → all_digits epoch ≡ true → starts is_ascii_digit text ≡ true → starts is_ascii_digit (epoch_spelling epoch ++ text) ≡ true
epoch_begins [] text e b = b
epoch_begins (d ∷ ds) text e b = (and_parts (is_ascii_digit d) (all_digits ds) e).0
