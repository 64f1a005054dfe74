use Rattle.std.proofs.Common.{◌≡◌, length, ap, arith}
use Rattle.json.specs.Json.{no_items}
use Rattle.json_view.specs.Json.{list_of}
use Rattle.json_view.specs.Trees.{shown_items}
use Rattle.json_view.proofs.walk.count_items.Goals as goal

pub loop-count-init : goal.loop-count-init
loop-count-init c = (λ js given. (js, given, omega arith), omega arith)

pub loop-count-preserved : goal.loop-count-preserved
loop-count-preserved c =
    let now = c.loop-count.invariant in (
      λ js given.
          let r = now.0 js given in
          let f = c.in-Some.ensures.value r.0 r.1 in
          (f.1, f.4, omega (arith, r.2, ap (λ i. length (list_of (shown_items i))) f.2)),
      omega (arith, now.1, c.in-Some.ensures.later),
    )

pub returns : goal.returns
returns c js given =
    let r = c.loop-count.invariant.0 js given in
    let done : r.0 ≡ no_items = c.in_default.ensures.value r.0 r.1 in
    omega (arith, r.2, ap (λ i. length (list_of (shown_items i))) done)

pub overflow_add-count : goal.overflow_add-count
overflow_add-count c = omega (arith, c.loop-count.invariant.1, c.in-Some.ensures.later)
