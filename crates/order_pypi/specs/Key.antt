-- The key of a version, and the order of keys (PEP 440, "Summary of permitted suffixes and relative
-- ordering").
use Rattle.std.specs.Prelude.{ℕ, Bool, false, not, ◌&&◌, if◌then◌else◌, List, [], ◌∷◌, map, Option, Some, None}
use Rattle.std.specs.List.{slice_split}
use Rattle.std.specs.Option.{is_some}
use Rattle.std.specs.Ordering.{eq_by_cmp, nat_cmp, on, then_cmp}
use Rattle.std.specs.declared.cmp.Ordering.{Ordering}
use Rattle.osv_prim.specs.Digits.{IdentifierWeight, filled_cmp, identifier_weights, identifiers_cmp, is_dot, number}
use Rattle.order_pypi.specs.declared.word.PreWord.{PreWord}
use Rattle.order_pypi.specs.declared.word.PreWord.TheVariants.{Alpha, Beta, Candidate}

-- the texts of a version's parts: digits, digits with dots, words with digits, and segments with dots
pub record Parts : Type 0 where
  pub epoch : List ℕ
  pub release : List ℕ
  pub pre : Option (PreWord × List ℕ)
  pub post : Option (List ℕ)
  pub dev : Option (List ℕ)
  pub local : List ℕ

-- each part as numbers, with a rank for an absent one
pub record Key : Type 0 where
  pub epoch : ℕ
  pub release : List ℕ
  pub pre : ℕ × ℕ
  pub post : ℕ × ℕ
  pub dev : ℕ × ℕ
  pub local : List (ℕ × ℕ × List ℕ)

abbrev pub release_numbers : List ℕ → List ℕ
release_numbers text = map number (slice_split is_dot text)

abbrev pub word_rank : PreWord → ℕ
word_rank Alpha = 1
word_rank Beta = 2
word_rank Candidate = 3

-- No pre-release is below each of them where a development release and no post-release stands, and else
-- above.
abbrev pub pre_rank : Option (PreWord × List ℕ) → Bool → Bool → ℕ
pre_rank (Some p) post dev = word_rank p.0
pre_rank None post dev = if dev && not post then 0 else 4

abbrev pub pre_digits : Option (PreWord × List ℕ) → List ℕ
pre_digits (Some p) = p.1
pre_digits None = []

abbrev pub digits_or_none : Option (List ℕ) → List ℕ
digits_or_none (Some ds) = ds
digits_or_none None = []

-- no post-release is below each of them
abbrev pub post_rank : Option (List ℕ) → ℕ
post_rank (Some ds) = 1
post_rank None = 0

-- no development release is above each of them
abbrev pub dev_rank : Option (List ℕ) → ℕ
dev_rank (Some ds) = 0
dev_rank None = 1

-- segments of digits are above the others, and no local version is below each of them
abbrev pub local_weights : List ℕ → List IdentifierWeight
local_weights [] = []
local_weights (c ∷ cs) = identifier_weights false (c ∷ cs)

abbrev pub key_of : Parts → Key
key_of p = record {
  epoch = number p.epoch;
  release = release_numbers p.release;
  pre = (pre_rank p.pre (is_some p.post) (is_some p.dev), number (pre_digits p.pre));
  post = (post_rank p.post, number (digits_or_none p.post));
  dev = (dev_rank p.dev, number (digits_or_none p.dev));
  local = local_weights p.local;
}

abbrev pub ranked_cmp : ℕ × ℕ → ℕ × ℕ → Ordering
ranked_cmp = then_cmp (on (λ (r : ℕ × ℕ). r.0) nat_cmp) (on (λ (r : ℕ × ℕ). r.1) nat_cmp)

-- numbers of a release place by place, the shorter one filled with zeros
abbrev pub release_cmp : List ℕ → List ℕ → Ordering
release_cmp = filled_cmp nat_cmp 0

-- by pre-release, post-release, development release and local version
abbrev pub suffix_cmp : Key → Key → Ordering
suffix_cmp = then_cmp (on (λ (k : Key). k.pre) ranked_cmp) (then_cmp (on (λ (k : Key). k.post) ranked_cmp)
    (then_cmp (on (λ (k : Key). k.dev) ranked_cmp) (on (λ (k : Key). k.local) identifiers_cmp)))

-- by epoch, by release, and by what stands behind the release
abbrev pub key_cmp : Key → Key → Ordering
key_cmp = then_cmp (on (λ (k : Key). k.epoch) nat_cmp) (then_cmp (on (λ (k : Key). k.release) release_cmp) suffix_cmp)

-- equal where neither is less
abbrev pub key_eq : Key → Key → Bool
key_eq = eq_by_cmp key_cmp
