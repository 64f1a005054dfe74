-- The key of a semantic version, and precedence (SemVer 2.0.0, items 9 to 11).
use Rattle.std.specs.Prelude.{ℕ, Bool, true, List, [], ◌∷◌}
use Rattle.std.specs.Ordering.{eq_by_cmp, nat_cmp, on, then_cmp}
use Rattle.std.specs.declared.cmp.Ordering.{Ordering}
use Rattle.osv_prim.specs.Digits.{IdentifierWeight, identifier_weights, identifiers_cmp}

-- What the identifiers of a pre-release weigh, a numeric one below the others. Without a pre-release there
-- are none.
abbrev pub pre_release : List ℕ → List IdentifierWeight
pre_release [] = []
pre_release (c ∷ cs) = identifier_weights true (c ∷ cs)

-- three numbers, and what the identifiers of the pre-release weigh
pub record Key : Type 0 where
  pub major : ℕ
  pub minor : ℕ
  pub patch : ℕ
  pub pre : List (ℕ × ℕ × List ℕ)

-- no pre-release is above each pre-release
abbrev pub pre_rank : List IdentifierWeight → ℕ
pre_rank [] = 1
pre_rank (w ∷ ws) = 0

-- identifier by identifier, and more of them are above fewer
abbrev pub pre_cmp : List IdentifierWeight → List IdentifierWeight → Ordering
pre_cmp = then_cmp (on pre_rank nat_cmp) identifiers_cmp

abbrev pub key_cmp : Key → Key → Ordering
key_cmp = then_cmp (on (λ (k : Key). k.major) nat_cmp) (then_cmp (on (λ (k : Key). k.minor) nat_cmp)
    (then_cmp (on (λ (k : Key). k.patch) nat_cmp) (on (λ (k : Key). k.pre) pre_cmp)))

-- equal where neither is less
abbrev pub key_eq : Key → Key → Bool
key_eq = eq_by_cmp key_cmp
