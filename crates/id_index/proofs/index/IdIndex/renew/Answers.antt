use Rattle.std.proofs.Common.{◌≡◌, ℕ, List, map, get_or, sym, subst, ◌∙◌, arith}
use Rattle.std.specs.Prelude.{slice_get, IfSome}
use Rattle.std.specs.Arc.{arc_value}
use Rattle.std.proofs.lemmas.List.{length-map}
use Rattle.id_index.specs.Heads.{AreFirst, IsHeadAt}
use Rattle.id_index.proofs.Firsts.{all-first, none-first, moved-heads}
use Rattle.id_index.proofs.index.IdIndex.renew.Goals as goal

pub loop-index-init : goal.loop-index-init
loop-index-init c old m index = let all = map (λ a. arc_value a) c.args.records.now in subst (λ (hs : List ℕ). AreFirst hs all) (sym c.in_ok-heads.ensures.items) (none-first all)

pub loop-index-preserved : goal.loop-index-preserved
loop-index-preserved c old m index =
    let all = map (λ a. arc_value a) c.args.records.now in
    let i = c.loop-index.index in
    let moved = c.args.moves.now.moved.items in
    let known = c.as_slice-known.result.now in
    let known_is : known ≡ c.args.self.now = c.as_slice-known.ensures.value ∙ c.self.view_is in
    c.in_ok-put_known.ensures.first (c.loop-index.invariant old m index)
    (subst (λ (ms : List ℕ). IfSome (slice_get ms i) (λ place. IsHeadAt (get_or known i 0) place all)) (sym c.as_slice.ensures.value)
    (subst (λ (hs : List ℕ). IfSome (slice_get moved i) (λ place. IsHeadAt (get_or hs i 0) place all)) (sym known_is) (moved-heads moved c.args.moves.now.added.items c.args.self.now old all m.are index i)))

pub returns : goal.returns
returns c old m index = all-first _ _ (c.in_ok-put_heads.ensures.first (c.loop-index.invariant old m index)) (omega (arith, c.in_ok-put_heads.ensures.count, length-map c.args.records.now (λ a. arc_value a)))
