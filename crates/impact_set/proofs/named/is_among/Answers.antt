use Rattle.std.proofs.Common.{◌≡◌, is_ok}
use Rattle.std.proofs.lemmas.List.Sorted.{searched}
use Rattle.impact_set.specs.Passing.{has_number}
use Rattle.impact_set.proofs.Naming.{among-is}
use Rattle.impact_set.proofs.named.is_among.Goals as goal

pub returns : goal.returns
returns c =
    let numbers = c.args.numbers.now in
    let found : is_ok c.binary_search.result ≡ has_number numbers c.args.number =
    among-is numbers c.args.number c.binary_search.result (searched numbers c.args.number c.binary_search.result c.binary_search.ensures.position (λ i j le lt. c.requires i j 0 le lt)) in
    cc
