-- The normal spelling of a version's parts (PEP 440, "Normalization" and "Public version identifiers").
use Rattle.std.specs.Prelude.{◌≡◌, ℕ, true, List, [], ◌∷◌, ◌++◌, map, codes, Option, Some, None, IfSome}
use Rattle.std.specs.Char.{is_ascii_alphanumeric, is_ascii_digit}
use Rattle.osv_prim.specs.Digits.{all_digits}
use Rattle.osv_prim.specs.Numerals.{is_numeral}
use Rattle.order_pypi.specs.declared.word.PreWord.{PreWord}
use Rattle.order_pypi.specs.declared.word.PreWord.TheVariants.{Alpha, Beta, Candidate}
use Rattle.order_pypi.specs.Grammar.{release_of, segments, spelled, starts}
use Rattle.order_pypi.specs.Key.{Parts}

abbrev pub epoch_spelling : List ℕ → List ℕ
epoch_spelling [] = []
epoch_spelling (d ∷ ds) = d ∷ ds ++ codes "!"

abbrev pub word_spelling : PreWord → List ℕ
word_spelling Alpha = codes "a"
word_spelling Beta = codes "b"
word_spelling Candidate = codes "rc"

abbrev pub pre_spelling : Option (PreWord × List ℕ) → List ℕ
pre_spelling None = []
pre_spelling (Some w) = word_spelling w.0 ++ w.1

abbrev pub post_spelling : Option (List ℕ) → List ℕ
post_spelling None = []
post_spelling (Some digits) = codes ".post" ++ digits

abbrev pub dev_spelling : Option (List ℕ) → List ℕ
dev_spelling None = []
dev_spelling (Some digits) = codes ".dev" ++ digits

abbrev pub local_spelling : List ℕ → List ℕ
local_spelling [] = []
local_spelling (c ∷ cs) = codes "+" ++ c ∷ cs

-- what stands behind the pre-release, and behind the release
abbrev pub post_on : Parts → List ℕ
post_on p = post_spelling p.post ++ (dev_spelling p.dev ++ local_spelling p.local)

abbrev pub pre_on : Parts → List ℕ
pre_on p = pre_spelling p.pre ++ post_on p

-- all parts, one after another
abbrev pub spelling : Parts → List ℕ
spelling p = epoch_spelling p.epoch ++ (p.release ++ pre_on p)

-- a local version in lower case, with dots between its segments, or none
abbrev pub IsNormalLocal : List ℕ → Type 0
IsNormalLocal [] = Unit {0}
IsNormalLocal (c ∷ cs) = (is_ascii_alphanumeric c ≡ true) × (segments (c ∷ cs) ≡ c ∷ cs) × (map spelled (c ∷ cs) ≡ c ∷ cs)

-- parts as they are spelled normally: a word has its number
pub record AreNormal (p : Parts) : Type 0 where
  pub epoch : all_digits p.epoch ≡ true
  pub begins : starts is_ascii_digit p.release ≡ true
  pub release : release_of p.release ≡ p.release
  pub pre : IfSome p.pre (λ w. is_numeral w.1 ≡ true)
  pub post : IfSome p.post (λ digits. is_numeral digits ≡ true)
  pub dev : IfSome p.dev (λ digits. is_numeral digits ≡ true)
  pub local : IsNormalLocal p.local
