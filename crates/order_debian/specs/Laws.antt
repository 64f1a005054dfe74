-- The order of keys is a total one.
use Rattle.std.specs.Cmp.{IsTotalOrder, nat_cmp_total, on_total, then_total}
use Rattle.std.specs.Cmp.Lexicographic.{nat_list_cmp_total}
use Rattle.osv_prim.specs.Digits.{filled_total}
use Rattle.order_debian.specs.Key.{Key, key_cmp}
use Rattle.order_debian.specs.Turns.{Weight, no_weight, weight_cmp}

pub weight_total : IsTotalOrder weight_cmp
weight_total = then_total (on_total (λ (w : Weight). w.0) nat_list_cmp_total) (on_total (λ (w : Weight). w.1) nat_cmp_total)

pub key_total : IsTotalOrder key_cmp
key_total =
    then_total (on_total (λ (k : Key). k.epoch) nat_cmp_total)
    (then_total (on_total (λ (k : Key). k.upstream) (filled_total weight_total no_weight)) (on_total (λ (k : Key). k.revision) (filled_total weight_total no_weight)))
