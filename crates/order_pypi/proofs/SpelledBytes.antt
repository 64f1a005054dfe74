-- A normal spelling has no white space.
use Rattle.std.proofs.Common.{◌≡◌, ℕ, Bool, true, false, not, ◌&&◌, ◌||◌, List, [], ◌∷◌, ◌++◌, reverse, Option, Some, None, IfSome, refl, ap, ◌∙◌, arith, inl, inr}
use Rattle.std.proofs.lemmas.Bool.{and_from, and_parts, cases_Bool, not-true, not_from_false, or_cases}
use Rattle.std.proofs.lemmas.Bool.Decides.{nat_tests}
use Rattle.std.proofs.lemmas.List.{reverse-append, reverse-reverse}
use Rattle.std.proofs.lemmas.List.Folds.{list_all-append}
use Rattle.std.specs.Char.{is_ascii_alphanumeric, is_ascii_digit}
use Rattle.std.specs.List.{list_all}
use Rattle.osv_prim.specs.Digits.{all_digits, is_dot}
use Rattle.osv_prim.specs.Numerals.{is_numeral}
use Rattle.osv_prim.specs.Packages.{is_separator}
use Rattle.order_pypi.specs.declared.word.PreWord.{PreWord}
use Rattle.order_pypi.specs.declared.word.PreWord.TheVariants.{Alpha, Beta, Candidate}
use Rattle.order_pypi.specs.Grammar.{behind_v, is_space, release_of, segments, starts, tail, trim_end, trim_start}
use Rattle.order_pypi.specs.Reading.{at_epoch}
use Rattle.order_pypi.specs.Spelling.{IsNormalLocal, dev_spelling, epoch_spelling, local_spelling, post_spelling, pre_spelling}
use Rattle.order_pypi.proofs.SpelledWords.{no_space, no_v, numeral_digits}
use Rattle.order_pypi.proofs.SpelledReleases.{is_kept, rest_kept}

abbrev pub is_solid : ℕ → Bool
is_solid c = not (is_space c)

pub solid : (c : ℕ) → is_space c ≡ false → is_solid c ≡ true
solid c e = not_from_false (is_space c) e

pub appended : (xs ys : List ℕ) → list_all is_solid xs ≡ true → list_all is_solid ys ≡ true → list_all is_solid (xs ++ ys) ≡ true
appended xs ys p q = list_all-append is_solid xs ys ∙ and_from (list_all is_solid xs) (list_all is_solid ys) p q

pub digits_solid : (ds : List ℕ) → all_digits ds ≡ true → list_all is_solid ds ≡ true
digits_solid [] e = refl
digits_solid (d ∷ ds) e =
    let h = and_parts (is_ascii_digit d) (all_digits ds) e in
    and_from (is_solid d) (list_all is_solid ds) (solid d (no_space d h.0)) (digits_solid ds h.1)

pub numeral_solid : (ds : List ℕ) → is_numeral ds ≡ true → list_all is_solid ds ≡ true
numeral_solid [] e = refl
numeral_solid (d ∷ ds) e = digits_solid (d ∷ ds) (numeral_digits (d ∷ ds) e)

pub dot_no_space : (c : ℕ) → is_dot c ≡ true → is_space c ≡ false
dot_no_space c e = grind (arith, nat_tests)

pub release_solid : (r : List ℕ) → release_of r ≡ r → list_all is_solid r ≡ true
release_solid [] e = refl
release_solid (c ∷ cs) e =
    let rest = release_solid cs (rest_kept c cs e) in
    elim (or_cases (is_ascii_digit c) (is_dot c && starts is_ascii_digit cs) (is_kept c cs e)) [
      | inl digit ↦ and_from (is_solid c) (list_all is_solid cs) (solid c (no_space c digit)) rest
      | inr dot ↦ and_from (is_solid c) (list_all is_solid cs) (solid c (dot_no_space c (and_parts (is_dot c) (starts is_ascii_digit cs) dot).0)) rest
    ]

pub segment_no_space : (c : ℕ) → is_ascii_alphanumeric c ≡ true → is_space c ≡ false
segment_no_space c e = grind (arith, nat_tests)

pub separator_no_space : (c : ℕ) → is_separator c ≡ true → is_space c ≡ false
separator_no_space c e = grind (arith, nat_tests)

pub segments_solid : (t : List ℕ) → segments t ≡ t → list_all is_solid t ≡ true
unfolding segments
segments_solid [] e = refl
segments_solid (c ∷ cs) e = elim (cases_Bool (is_ascii_alphanumeric c || (is_separator c && starts is_ascii_alphanumeric cs))) [
  | inr gone ↦ let none : [] ≡ c ∷ cs = rw gone at e in absurd cc
  | inl there ↦
      let rest : list_all is_solid cs ≡ true = segments_solid cs (ap tail (rw there at e)) in
      elim (or_cases (is_ascii_alphanumeric c) (is_separator c && starts is_ascii_alphanumeric cs) there) [
        | inl letter ↦ and_from (is_solid c) (list_all is_solid cs) (solid c (segment_no_space c letter)) rest
        | inr other ↦ and_from (is_solid c) (list_all is_solid cs) (solid c (separator_no_space c (and_parts (is_separator c) (starts is_ascii_alphanumeric cs) other).0)) rest
      ]
]

pub local_solid : (l : List ℕ) → IsNormalLocal l → list_all is_solid (local_spelling l) ≡ true
local_solid [] n = refl
local_solid (c ∷ cs) n = segments_solid (c ∷ cs) n.1

pub dev_solid : (dev : Option (List ℕ)) → IfSome dev (λ ds. is_numeral ds ≡ true) → list_all is_solid (dev_spelling dev) ≡ true
dev_solid None n = refl
dev_solid (Some ds) n = numeral_solid ds n

pub post_solid : (post : Option (List ℕ)) → IfSome post (λ ds. is_numeral ds ≡ true) → list_all is_solid (post_spelling post) ≡ true
post_solid None n = refl
post_solid (Some ds) n = numeral_solid ds n

pub pre_solid : (pre : Option (PreWord × List ℕ)) → IfSome pre (λ w. is_numeral w.1 ≡ true) → list_all is_solid (pre_spelling pre) ≡ true
pre_solid None n = refl
pre_solid (Some (Alpha, ds)) n = numeral_solid ds n
pre_solid (Some (Beta, ds)) n = numeral_solid ds n
pre_solid (Some (Candidate, ds)) n = numeral_solid ds n

pub epoch_solid : (epoch : List ℕ) → all_digits epoch ≡ true → list_all is_solid (epoch_spelling epoch) ≡ true
epoch_solid [] e = refl
epoch_solid (d ∷ ds) e = appended (d ∷ ds) (33 ∷ []) (digits_solid (d ∷ ds) e) refl

pub reversed : (xs : List ℕ) → list_all is_solid xs ≡ true → list_all is_solid (reverse xs) ≡ true
reversed [] e = refl
reversed (x ∷ xs) e =
    let h = and_parts (is_solid x) (list_all is_solid xs) e in
    ap (list_all is_solid) (reverse-append (x ∷ []) xs) ∙ appended (reverse xs) (x ∷ []) (reversed xs h.1) (and_from (is_solid x) true h.0 refl)

pub start_stays : (t : List ℕ) → list_all is_solid t ≡ true → trim_start t ≡ t
unfolding trim_start
start_stays [] e = refl
start_stays (c ∷ cs) e = let none = not-true (is_space c) (and_parts (is_solid c) (list_all is_solid cs) e).0 in rw none refl

pub end_stays : (t : List ℕ) → list_all is_solid t ≡ true → trim_end t ≡ t
unfolding trim_end
end_stays t e = ap reverse (start_stays (reverse t) (reversed t e)) ∙ reverse-reverse t

pub no_v_leads : (t : List ℕ) → starts is_ascii_digit t ≡ true → behind_v t ≡ t
unfolding behind_v
no_v_leads [] b = absurd cc
no_v_leads (c ∷ cs) b = let none = no_v c b in rw none refl

pub epoch_at : (t : List ℕ) → list_all is_solid t ≡ true → starts is_ascii_digit t ≡ true → at_epoch t ≡ t
epoch_at t e b = ap (λ (x : List ℕ). behind_v (trim_end x)) (start_stays t e) ∙ ap behind_v (end_stays t e) ∙ no_v_leads t b
