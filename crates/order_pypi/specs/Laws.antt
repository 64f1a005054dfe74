-- The order of keys is a total one.
use Rattle.std.specs.Prelude.{ℕ}
use Rattle.std.specs.Cmp.{IsTotalOrder, nat_cmp_total, on_total, then_total}
use Rattle.osv_prim.specs.Digits.{filled_total, identifiers_total}
use Rattle.order_pypi.specs.Key.{Key, key_cmp, ranked_cmp}

pub ranked_total : IsTotalOrder ranked_cmp
ranked_total = then_total (on_total (λ (r : ℕ × ℕ). r.0) nat_cmp_total) (on_total (λ (r : ℕ × ℕ). r.1) nat_cmp_total)

pub key_total : IsTotalOrder key_cmp
key_total =
    then_total (on_total (λ (k : Key). k.epoch) nat_cmp_total) (then_total (on_total (λ (k : Key). k.release) (filled_total nat_cmp_total 0))
    (then_total (on_total (λ (k : Key). k.pre) ranked_total) (then_total (on_total (λ (k : Key). k.post) ranked_total)
    (then_total (on_total (λ (k : Key). k.dev) ranked_total) (on_total (λ (k : Key). k.local) identifiers_total)))))
