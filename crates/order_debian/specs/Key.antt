-- The key of a Debian version, and the order of keys (Debian Policy, 5.6.12).
use Rattle.std.specs.Prelude.{ℕ, Bool, List}
use Rattle.std.specs.Ordering.{eq_by_cmp, nat_cmp, on, then_cmp}
use Rattle.std.specs.declared.cmp.Ordering.{Ordering}
use Rattle.order_debian.specs.Turns.{weights_cmp}

-- the epoch, and what the upstream version and the revision weigh
pub record Key : Type 0 where
  pub epoch : ℕ
  pub upstream : List (List ℕ × ℕ)
  pub revision : List (List ℕ × ℕ)

-- by epoch, then by upstream version, then by revision
abbrev pub key_cmp : Key → Key → Ordering
key_cmp = then_cmp (on (λ (k : Key). k.epoch) nat_cmp) (then_cmp (on (λ (k : Key). k.upstream) weights_cmp) (on (λ (k : Key). k.revision) weights_cmp))

-- equal where neither is less
abbrev pub key_eq : Key → Key → Bool
key_eq = eq_by_cmp key_cmp
