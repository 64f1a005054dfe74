use Rattle.std.proofs.Common.{ℕ, get_or, arith, sym, ap, ◌∙◌}
use Rattle.std.specs.List.{slice_range}
use Rattle.osv_prim.proofs.Cuts.{piece_at}
use Rattle.osv_prim.proofs.lists.list_at.Goals as goal

pub offset_bounds-items-start : goal.offset_bounds-items-start
offset_bounds-items-start g c =
    let p = piece_at 0 c.args.ends.now c.args.items.now c.args.index c.requires.cut c.requires.there in
    omega (arith, p.ordered, p.within, c.start_of-start.ensures)

pub slice_bounds-result-count : goal.slice_bounds-result-count
slice_bounds-result-count g c =
    let p = piece_at 0 c.args.ends.now c.args.items.now c.args.index c.requires.cut c.requires.there in
    omega (arith, p.ordered, c.start_of-start.ensures)

pub slice_bounds-result-start : goal.slice_bounds-result-start
slice_bounds-result-start g c =
    let p = piece_at 0 c.args.ends.now c.args.items.now c.args.index c.requires.cut c.requires.there in
    omega (arith, p.ordered, c.start_of-start.ensures)

pub slice_bounds-result-end : goal.slice_bounds-result-end
slice_bounds-result-end g c =
    let p = piece_at 0 c.args.ends.now c.args.items.now c.args.index c.requires.cut c.requires.there in
    omega (arith, p.within)

pub returns : goal.returns
returns g c =
    let p = piece_at 0 c.args.ends.now c.args.items.now c.args.index c.requires.cut c.requires.there in
    ap (λ (start : ℕ). slice_range c.args.items.now start (get_or c.args.ends.now c.args.index 0)) c.start_of-start.ensures ∙ sym p.is
