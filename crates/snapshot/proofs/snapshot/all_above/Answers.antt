use Rattle.std.proofs.Common.{◌≡◌, ℕ, List, ◌++◌, Bor, arith, map, sym, ap, subst, ◌∙◌, append_assoc}
use Rattle.std.specs.Option.{option_to_list}
use Rattle.std.specs.Prelude.{Option, option_map, filter}
use Rattle.std.specs.Arc.{arc_value}
use Rattle.std.proofs.lemmas.List.{length-map}
use Rattle.osv_record.specs.Advisories.{Advisory}
use Rattle.impact_job.specs.Order.{IsSplit}
use Rattle.snapshot.specs.Pages.{is_above}
use Rattle.snapshot.proofs.Pages.{all_without_id, hits-above, fewer}
use Rattle.snapshot.proofs.snapshot.all_above.Goals as goal

pub returns-in-None-clause-hits : goal.returns-in-None-clause-hits
returns-in-None-clause-hits c = λ up h.
    let xs : List Advisory = map (λ a. arc_value a) c.args.records.now in
    let after = ap (option_map (λ (id : Bor (List ℕ)). id.now)) c.in-None.is in
    sym (ap (λ (a : Option (List ℕ)). filter (is_above a) (filter h xs)) after ∙ all_without_id h xs)

pub returns-in-Some-clause-hits : goal.returns-in-Some-clause-hits
returns-in-Some-clause-hits c = λ up h.
    let xs : List Advisory = map (λ a. arc_value a) c.args.records.now in
    let below : List Advisory = map (λ a. arc_value a) c.split_at_id.result.below.now in
    let found : Option Advisory = option_map (λ a. arc_value a.now) c.split_at_id.result.found in
    let above : List Advisory = map (λ a. arc_value a) c.split_at_id.result.above.now in
    let id : c.as_bytes.result.now ≡ c.in-Some.id.now = c.as_bytes.ensures.value ∙ c.as_str.ensures.value in
    let after = ap (option_map (λ (id : Bor (List ℕ)). id.now)) c.in-Some.is in
    sym (ap (λ (a : Option (List ℕ)). filter (is_above a) (filter h xs)) after ∙ hits-above h c.in-Some.id.now xs below found above (subst (λ (i : List ℕ). IsSplit i xs below found above) id (c.split_at_id.ensures up)))

pub returns-in-Some-clause-count : goal.returns-in-Some-clause-count
returns-in-Some-clause-count c = λ up.
    let xs : List Advisory = map (λ a. arc_value a) c.args.records.now in
    let below : List Advisory = map (λ a. arc_value a) c.split_at_id.result.below.now in
    let found : Option Advisory = option_map (λ a. arc_value a.now) c.split_at_id.result.found in
    let above : List Advisory = map (λ a. arc_value a) c.split_at_id.result.above.now in
    omega (arith, fewer c.as_bytes.result.now xs below found above (c.split_at_id.ensures up), length-map c.split_at_id.result.above.now (λ a. arc_value a), length-map c.args.records.now (λ a. arc_value a))

pub returns-in-Some-clause-last : goal.returns-in-Some-clause-last
returns-in-Some-clause-last c = λ up.
    let below : List Advisory = map (λ a. arc_value a) c.split_at_id.result.below.now in
    let found : Option Advisory = option_map (λ a. arc_value a.now) c.split_at_id.result.found in
    let above : List Advisory = map (λ a. arc_value a) c.split_at_id.result.above.now in
    (below ++ option_to_list found, (c.split_at_id.ensures up).whole ∙ sym (append_assoc below (option_to_list found) above))
