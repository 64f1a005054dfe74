-- Precedence is a total order.
use Rattle.std.specs.Cmp.{IsTotalOrder, nat_cmp_total, on_total, then_total}
use Rattle.osv_prim.specs.Digits.{identifiers_total}
use Rattle.order_semver.specs.Key.{Key, key_cmp, pre_cmp, pre_rank}

pub pre_total : IsTotalOrder pre_cmp
pre_total = then_total (on_total pre_rank nat_cmp_total) identifiers_total

pub key_total : IsTotalOrder key_cmp
key_total =
    then_total (on_total (λ (k : Key). k.major) nat_cmp_total) (then_total (on_total (λ (k : Key). k.minor) nat_cmp_total)
    (then_total (on_total (λ (k : Key). k.patch) nat_cmp_total) (on_total (λ (k : Key). k.pre) pre_total)))
