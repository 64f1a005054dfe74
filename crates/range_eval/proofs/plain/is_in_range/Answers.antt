use Rattle.std.proofs.Common.{false, ◌&&◌, sym, ap, ◌∙◌}
use Rattle.std.specs.Option.{option_map}
use Rattle.osv_prim.specs.Ranges.{flag_from, sorted}
use Rattle.range_eval.proofs.Flag.{flag-latest}
use Rattle.range_eval.proofs.plain.is_in_range.Goals as goal

pub returns-then-is_within_limits : goal.returns-then-is_within_limits
returns-then-is_within_limits g c =
    c.is_introduced.ensures
    ∙ sym (flag-latest g.T.Ord.cmp g.met.T.Ord.total c.args.version.now c.args.events.now (option_map (λ e. e.now) c.latest.result) c.latest.ensures)
    ∙ ap (λ b. b && flag_from g.T.Ord.cmp c.args.version.now false (sorted g.T.Ord.cmp c.args.events.now)) (sym c.if-is_within_limits.true ∙ c.is_within_limits.ensures)
