-- The number behind each word, and the local version, of a normal spelling.
use Rattle.std.proofs.Common.{◌≡◌, ℕ, true, false, not, ◌&&◌, ◌||◌, ◌==◌, List, [], ◌∷◌, ◌++◌, length, map, Option, Some, None, IfSome, refl, ap, ◌∙◌, arith, inl, inr}
use Rattle.std.proofs.lemmas.Bool.{and_parts, cases_Bool}
use Rattle.std.proofs.lemmas.Bool.Decides.{nat_tests}
use Rattle.std.specs.Char.{is_ascii_alphanumeric, is_ascii_digit}
use Rattle.osv_prim.specs.Digits.{all_digits, behind_digits, digit_front}
use Rattle.osv_prim.specs.Numerals.{is_numeral}
use Rattle.osv_prim.specs.Packages.{is_separator, lower}
use Rattle.order_pypi.specs.declared.word.PreWord.{PreWord}
use Rattle.order_pypi.specs.declared.word.PreWord.TheVariants.{Alpha, Beta, Candidate}
use Rattle.order_pypi.specs.Grammar.{behind_alpha, behind_beta, behind_candidate, behind_dev, behind_local, behind_number, behind_post, behind_pre, behind_segments, behind_separator, behind_word, dev_of, dev_word, is_space, is_v, local_of, number_behind, post_of, post_word, pre_of, pre_word, segments, spelled, starts, tail}
use Rattle.order_pypi.specs.Spelling.{IsNormalLocal, dev_spelling, local_spelling, post_spelling, pre_spelling, word_spelling}

-- ---- digits

pub no_separator : (d : ℕ) → is_ascii_digit d ≡ true → is_separator d ≡ false
no_separator d e = grind (arith, nat_tests)

pub no_l : (d : ℕ) → is_ascii_digit d ≡ true → (lower d == 108) ≡ false
no_l d e = grind (arith, nat_tests)

pub no_e : (d : ℕ) → is_ascii_digit d ≡ true → (lower d == 101) ≡ false
no_e d e = grind (arith, nat_tests)

pub no_v : (d : ℕ) → is_ascii_digit d ≡ true → is_v d ≡ false
no_v d e = grind (arith, nat_tests)

pub no_space : (d : ℕ) → is_ascii_digit d ≡ true → is_space d ≡ false
no_space d e = grind (arith, nat_tests)

pub front_all : (ds s : List ℕ) → all_digits ds ≡ true → starts is_ascii_digit s ≡ false → digit_front (ds ++ s) ≡ ds
unfolding digit_front
front_all [] [] e n = refl
front_all [] (c ∷ cs) e n = rw n refl
front_all (d ∷ ds) s e n = let h = and_parts (is_ascii_digit d) (all_digits ds) e in rw h.0 (ap (λ (x : List ℕ). d ∷ x) (front_all ds s h.1 n))

pub behind_all : (ds s : List ℕ) → all_digits ds ≡ true → starts is_ascii_digit s ≡ false → behind_digits (ds ++ s) ≡ s
unfolding behind_digits
behind_all [] [] e n = refl
behind_all [] (c ∷ cs) e n = rw n refl
behind_all (d ∷ ds) s e n = let h = and_parts (is_ascii_digit d) (all_digits ds) e in rw h.0 (behind_all ds s h.1 n)

pub numeral_digits : (ds : List ℕ) → is_numeral ds ≡ true → all_digits ds ≡ true
numeral_digits ds e = (and_parts (not (length ds == 0)) (all_digits ds) e).1

-- the number behind a word
pub number_all : (ds s : List ℕ) → is_numeral ds ≡ true → starts is_ascii_digit s ≡ false → number_behind (ds ++ s) ≡ ds
unfolding behind_separator
number_all [] s e n = absurd cc
number_all (d ∷ ds) s e n =
    let other : is_separator d ≡ false = no_separator d (and_parts (is_ascii_digit d) (all_digits ds) (numeral_digits (d ∷ ds) e)).0 in
    rw other (front_all (d ∷ ds) s (numeral_digits (d ∷ ds) e) n)

pub past_number : (ds s : List ℕ) → is_numeral ds ≡ true → starts is_ascii_digit s ≡ false → behind_number (ds ++ s) ≡ s
unfolding behind_separator
past_number [] s e n = absurd cc
past_number (d ∷ ds) s e n =
    let other : is_separator d ≡ false = no_separator d (and_parts (is_ascii_digit d) (all_digits ds) (numeral_digits (d ∷ ds) e)).0 in
    rw other (behind_all (d ∷ ds) s (numeral_digits (d ∷ ds) e) n)

-- ---- the local version

pub segments_end : (t : List ℕ) → segments t ≡ t → behind_segments t ≡ []
unfolding segments behind_segments
segments_end [] e = refl
segments_end (c ∷ cs) e = elim (cases_Bool (is_ascii_alphanumeric c || (is_separator c && starts is_ascii_alphanumeric cs))) [
  | inl there ↦ let rest : segments cs ≡ cs = ap tail (rw there at e) in rw there (segments_end cs rest)
  | inr gone ↦ let none : [] ≡ c ∷ cs = rw gone at e in absurd cc
]

pub local_reads : (l : List ℕ) → IsNormalLocal l → map spelled (local_of (local_spelling l)) ≡ l
unfolding local_of
local_reads [] n = refl
local_reads (c ∷ cs) n = rw n.0 (ap (map spelled) n.1 ∙ n.2)

pub local_ends : (l : List ℕ) → IsNormalLocal l → behind_local (local_spelling l) ≡ []
unfolding behind_local
local_ends [] n = refl
local_ends (c ∷ cs) n = rw n.0 (segments_end (c ∷ cs) n.1)

-- ---- the words

pub local_no_digit : (l : List ℕ) → starts is_ascii_digit (local_spelling l) ≡ false
local_no_digit [] = refl
local_no_digit (c ∷ cs) = refl

pub dev_no_digit : (dev : Option (List ℕ)) (l : List ℕ) → starts is_ascii_digit (dev_spelling dev ++ local_spelling l) ≡ false
dev_no_digit None l = local_no_digit l
dev_no_digit (Some ds) l = refl

pub post_no_digit : (post dev : Option (List ℕ)) (l : List ℕ) → starts is_ascii_digit (post_spelling post ++ (dev_spelling dev ++ local_spelling l)) ≡ false
post_no_digit None dev l = dev_no_digit dev l
post_no_digit (Some ds) dev l = refl

pub dev_reads : (dev : Option (List ℕ)) (l : List ℕ) → IfSome dev (λ ds. is_numeral ds ≡ true) → dev_of (dev_spelling dev ++ local_spelling l) ≡ dev
unfolding dev_of dev_word behind_word behind_separator
dev_reads None [] n = refl
dev_reads None (c ∷ cs) n = refl
dev_reads (Some ds) l n = ap (λ (x : List ℕ). Some x) (number_all ds (local_spelling l) n (local_no_digit l))

pub dev_ends : (dev : Option (List ℕ)) (l : List ℕ) → IfSome dev (λ ds. is_numeral ds ≡ true) → behind_dev (dev_spelling dev ++ local_spelling l) ≡ local_spelling l
unfolding behind_dev dev_word behind_word behind_separator
dev_ends None [] n = refl
dev_ends None (c ∷ cs) n = refl
dev_ends (Some ds) l n = past_number ds (local_spelling l) n (local_no_digit l)

pub post_reads : (post dev : Option (List ℕ)) (l : List ℕ) → IfSome post (λ ds. is_numeral ds ≡ true) → post_of (post_spelling post ++ (dev_spelling dev ++ local_spelling l)) ≡ post
unfolding post_of post_word behind_word behind_separator
post_reads None None [] n = refl
post_reads None None (c ∷ cs) n = refl
post_reads None (Some ds) l n = refl
post_reads (Some ds) dev l n = ap (λ (x : List ℕ). Some x) (number_all ds (dev_spelling dev ++ local_spelling l) n (dev_no_digit dev l))

pub post_ends : (post dev : Option (List ℕ)) (l : List ℕ) → IfSome post (λ ds. is_numeral ds ≡ true) → behind_post (post_spelling post ++ (dev_spelling dev ++ local_spelling l)) ≡ dev_spelling dev ++ local_spelling l
unfolding behind_post post_word behind_word behind_separator
post_ends None None [] n = refl
post_ends None None (c ∷ cs) n = refl
post_ends None (Some ds) l n = refl
post_ends (Some ds) dev l n = past_number ds (dev_spelling dev ++ local_spelling l) n (dev_no_digit dev l)

-- the word of a pre-release, and what stands behind it
pub word_reads : (w : PreWord) (ds s : List ℕ) → is_numeral ds ≡ true → pre_word (behind_separator (word_spelling w ++ (ds ++ s))) ≡ Some (w, ds ++ s)
unfolding pre_word behind_alpha behind_beta behind_candidate behind_word behind_separator
word_reads w [] s n = absurd cc
word_reads Alpha (d ∷ ds) s n = let other = no_l d (and_parts (is_ascii_digit d) (all_digits ds) (numeral_digits (d ∷ ds) n)).0 in rw other refl
word_reads Beta (d ∷ ds) s n = let other = no_e d (and_parts (is_ascii_digit d) (all_digits ds) (numeral_digits (d ∷ ds) n)).0 in rw other refl
word_reads Candidate (d ∷ ds) s n = refl

pub no_word : (post dev : Option (List ℕ)) (l : List ℕ) → pre_word (behind_separator (post_spelling post ++ (dev_spelling dev ++ local_spelling l))) ≡ None
unfolding pre_word behind_alpha behind_beta behind_candidate behind_word behind_separator
no_word None None [] = refl
no_word None None (c ∷ cs) = refl
no_word None (Some ds) l = refl
no_word (Some ds) dev l = refl

pub joined : (w : PreWord) (ds s : List ℕ) → word_spelling w ++ ds ++ s ≡ word_spelling w ++ (ds ++ s)
joined Alpha ds s = refl
joined Beta ds s = refl
joined Candidate ds s = refl

pub pre_reads : (pre : Option (PreWord × List ℕ)) (post dev : Option (List ℕ)) (l : List ℕ) → IfSome pre (λ w. is_numeral w.1 ≡ true)
    → pre_of (pre_spelling pre ++ (post_spelling post ++ (dev_spelling dev ++ local_spelling l))) ≡ pre
unfolding pre_of
pre_reads None post dev l n = rw (no_word post dev l) refl
pre_reads (Some w) post dev l n =
    rw (joined w.0 w.1 (post_spelling post ++ (dev_spelling dev ++ local_spelling l)), word_reads w.0 w.1 (post_spelling post ++ (dev_spelling dev ++ local_spelling l)) n)
    (ap (λ (ds : List ℕ). Some (w.0, ds)) (number_all w.1 (post_spelling post ++ (dev_spelling dev ++ local_spelling l)) n (post_no_digit post dev l)))

pub pre_ends : (pre : Option (PreWord × List ℕ)) (post dev : Option (List ℕ)) (l : List ℕ) → IfSome pre (λ w. is_numeral w.1 ≡ true)
    → behind_pre (pre_spelling pre ++ (post_spelling post ++ (dev_spelling dev ++ local_spelling l))) ≡ post_spelling post ++ (dev_spelling dev ++ local_spelling l)
unfolding behind_pre
pre_ends None post dev l n = rw (no_word post dev l) refl
pre_ends (Some w) post dev l n =
    rw (joined w.0 w.1 (post_spelling post ++ (dev_spelling dev ++ local_spelling l)), word_reads w.0 w.1 (post_spelling post ++ (dev_spelling dev ++ local_spelling l)) n)
    (past_number w.1 (post_spelling post ++ (dev_spelling dev ++ local_spelling l)) n (post_no_digit post dev l))
