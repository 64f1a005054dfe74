use Rattle.std.proofs.Common.{◌≡◌, ℕ, ◌+◌, List, [], ◌∷◌, map, drop, ap, sym, subst, arith}
use Rattle.std.specs.Arc.{arc_value}
use Rattle.std.proofs.lemmas.List.{drop_all}
use Rattle.impact_set.specs.Standing.{Known}
use Rattle.piece_work.specs.Sets.{IsSetOf}
use Rattle.impact_job.specs.declared.tables.Todo.{Todo}
use Rattle.impact_job.specs.declared.tables.Todo.TheVariants.{Carried}
use Rattle.impact_job.proofs.Listing.{item_next}
use Rattle.impact_job.proofs.Carrying.{Carrying, carrying-more, carrying-end}
use Rattle.impact_job.proofs.todo.carry_each.Goals as goal

pub loop-set-init : goal.loop-set-init
loop-set-init c = λ b p xs later w z. record { left = xs; begun = w; stay = z }

pub loop-set-preserved : goal.loop-set-preserved
loop-set-preserved c = λ b p xs later w z.
    let i : ℕ = c.loop-set.set-index in
    let todo : List Todo = c.loop-set.todo.items in
    let s : Known = arc_value c.set-item.result in
    let rest : List Known = map (λ a. arc_value a) (drop (i + 1) c.args.sets.now) in
    let next : map (λ a. arc_value a) (drop i c.args.sets.now) ≡ s ∷ rest = ap (map (λ a. arc_value a)) (item_next c.args.sets.now i c.set-item.result c.loop-set-test.true c.set-item.is) in
    subst (λ (ts : List Todo). Carrying b p ts rest later) (sym c.in_ok-push.ensures.items)
    (carrying-more b p todo (Carried c.in_ok-try_clone.field-0) s rest later (λ x st. (st.0, subst (λ (k : Known). IsSetOf p x k) (sym c.in_ok-try_clone.ensures) st.1))
    (subst (λ (ks : List Known). Carrying b p todo ks later) next (c.loop-set.invariant b p xs later w z)))

pub returns : goal.returns
returns c = λ b p xs later w z.
    let i : ℕ = c.loop-set.set-index in
    let todo : List Todo = c.loop-set.todo.items in
    let end : map (λ a. arc_value a) (drop i c.args.sets.now) ≡ [] = ap (map (λ a. arc_value a)) (drop_all i c.args.sets.now (omega (arith, c.loop-set-test.false))) in
    carrying-end b p todo later (subst (λ (ks : List Known). Carrying b p todo ks later) end (c.loop-set.invariant b p xs later w z))
