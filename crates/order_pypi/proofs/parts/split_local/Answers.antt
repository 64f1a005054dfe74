use Rattle.std.proofs.Common.{◌≡◌, true, sym, ap, ◌∙◌}
use Rattle.std.specs.Char.{is_ascii_alphanumeric}
use Rattle.order_pypi.specs.Grammar.{is_plus, local_of, segments, starts, tail}
use Rattle.order_pypi.proofs.Fronts.{segments_cut, segments_shorter}
use Rattle.order_pypi.proofs.parts.split_local.Goals as goal

pub slice_bounds-result-count : goal.slice_bounds-result-count
slice_bounds-result-count c = rw c.behind_segments-rest.ensures (segments_shorter c.tail-after.result.now)

pub returns-then-starts_with_alphanumeric-clause-run : goal.returns-then-starts_with_alphanumeric-clause-run
unfolding local_of
returns-then-starts_with_alphanumeric-clause-run c =
    let plus : starts is_plus c.args.text.now ≡ true = sym c.starts_with.ensures ∙ c.if-starts_with.true in
    let next : starts is_ascii_alphanumeric (tail c.args.text.now) ≡ true = rw c.tail-after.ensures at (sym c.starts_with_alphanumeric.ensures ∙ c.if-starts_with_alphanumeric.true) in
    rw (c.behind_segments-rest.ensures, segments_cut c.tail-after.result.now, plus, next) (ap segments c.tail-after.ensures)
