use Rattle.std.proofs.Common.{◌≡◌, ◌-◌, ℕ, List, Bool, ◌||◌, length, sym, ap, ◌∙◌, arith}
use Rattle.std.specs.List.{list_any}
use Rattle.evaluate.specs.Hits.{range_contains}
use Rattle.range_hits.specs.Forms.{IsFormOf}
use Rattle.range_hits.proofs.Parting.{zip-first, zip-none}
use Rattle.range_hits.proofs.hit.any_contains.Goals as goal

pub returns-then-contains : goal.returns-then-contains
returns-then-contains c = λ e v extents all read.
    let m = c.loop-rest.invariant e v extents all read in
    let rest = c.loop-rest.rest.now in
    let z = zip-first (IsFormOf e) m.0 rest c.form-item.result _ (length rest - 1) c.in-len1-up.len_at_least c.form-item.is (omega (arith, c.in-len1-up.len_at_least)) m.1 in
    let hit = sym c.if-contains.true ∙ c.contains.ensures e v z.first z.stands read in
    ap (λ (b : Bool). b || list_any (range_contains e v) z.later) hit ∙ sym (ap (list_any (range_contains e v)) z.whole) ∙ m.2

pub loop-rest-preserved : goal.loop-rest-preserved
loop-rest-preserved c = λ e v extents all read.
    let m = c.loop-rest.invariant e v extents all read in
    let rest = c.loop-rest.rest.now in
    let z = zip-first (IsFormOf e) m.0 rest c.form-item.result _ (length rest - 1) c.in-len1-up.len_at_least c.form-item.is (omega (arith, c.in-len1-up.len_at_least)) m.1 in
    let miss = sym c.if-contains.false ∙ c.contains.ensures e v z.first z.stands read in
    (z.later, z.rest, ap (λ (b : Bool). b || list_any (range_contains e v) z.later) miss ∙ sym (ap (list_any (range_contains e v)) z.whole) ∙ m.2)

pub returns : goal.returns
returns c = λ e v extents all read.
    let m = c.loop-rest.invariant e v extents all read in
    sym (ap (list_any (range_contains e v)) (zip-none (IsFormOf e) m.0 c.loop-rest.rest.now c.in_default.len_below m.1)) ∙ m.2
