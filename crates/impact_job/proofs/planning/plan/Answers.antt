use Rattle.std.proofs.Common.{◌≡◌, List, length, map, drop, sym, ap, subst, ◌∙◌}
use Rattle.std.specs.Arc.{arc_value}
use Rattle.std.specs.declared.vec.Vec.{Vec}
use Rattle.std.proofs.Math.Seq.{drop-append_seam}
use Rattle.osv_record.specs.Advisories.{Advisory}
use Rattle.osv_record.specs.Imports.{records_from}
use Rattle.osv_record.specs.Imports as counting
use Rattle.history.specs.declared.past.Past.{Past}
use Rattle.history.specs.Prefixes.{records}
use Rattle.impact_job.specs.Order.{Ascend}
use Rattle.impact_job.specs.Tables.{StandsFor, repos_seen, git_counts}
use Rattle.impact_job.specs.declared.tables.Tables.{Tables}
use Rattle.impact_job.proofs.Prefixes.{planned, merge-at, latest-at}
use Rattle.impact_job.proofs.Moving.{moved-at, moved-planned}
use Rattle.impact_job.proofs.Counting.{counts-planned}
use Rattle.impact_job.proofs.planning.plan.Goals as goal

pub returns-clause-plan : goal.returns-clause-plan
returns-clause-plan c = λ b p x.
    let base = (arc_value (arc_value c.args.prefix.now.base).records).items in
    let changed = c.in_ok-changed.changed.items in
    let new : List Advisory = map (λ a. arc_value a) c.in_ok-records.records.items in
    let slice = c.as_slice-2.ensures.value ∙ ap (λ (v : Vec _ _). v.items) (c.deref-2.ensures ∙ ap (λ (t : Tables). arc_value t.records) c.deref.ensures) in
    let again = c.as_slice-4.ensures.value ∙ ap (λ (v : Vec _ _). v.items) (c.deref-4.ensures ∙ ap (λ (t : Tables). arc_value t.records) c.deref-3.ensures) in
    let merge = merge-at (λ a. arc_value a) (λ a. arc_value a.now) c.as_slice-2.result.now base c.as_slice-3.result.now changed new slice c.as_slice-3.ensures.value c.in_ok-records.ensures in
    let last = latest-at (λ a. arc_value a) c.as_slice.result.now c.args.prefix.now.added.items (map (λ a. arc_value a.now) changed) c.as_slice.ensures.value c.in_ok-changed.ensures in
    let came : x.came ≡ drop (length b) p = sym (ap (drop (length b)) x.whole ∙ drop-append_seam b x.came) in
    let known = c.in_ok-graphs.ensures b p x in
    record {
      front = (x.came, sym x.whole);
      upto = x.upto;
      kept =
          ap (λ (v : Vec _ _). map (λ a. arc_value a) v.items) c.in_ok-new.ensures.ok
          ∙ planned b x.came p (map (λ a. arc_value a) base) (map (λ a. arc_value a) c.args.prefix.now.added.items) (map (λ a. arc_value a.now) changed) new x.whole x.base.kept x.added last merge;
      grown = ap (λ (v : Vec _ _). repos_seen v.items) c.in_ok-new-2.ensures.ok ∙ c.in_ok-repos.ensures ∙ known.all;
      moved =
          moved-planned b x.came p (map (λ a. arc_value a) base) (map (λ a. arc_value a) c.args.prefix.now.added.items) (map (λ a. arc_value a.now) changed) c.in_ok-moves.moves x.whole x.base.kept x.added last
          (moved-at (λ a. arc_value a) (λ a. arc_value a.now) c.as_slice-4.result.now base c.as_slice-5.result.now changed c.in_ok-moves.moves again c.as_slice-5.ensures.value c.in_ok-moves.ensures);
      counts =
          counts-planned b x.came p (map (λ a. arc_value a) c.args.prefix.now.added.items) (map (λ a. arc_value a.now) changed) c.in_ok-counts.counts.items x.whole x.added last
          (subst (λ ys. Ascend (map (λ a. arc_value a.now) ys) → c.in_ok-counts.counts.items ≡ git_counts (records_from (records b) (map (λ a. arc_value a.now) ys))) c.as_slice-7.ensures.value
          (c.in_ok-counts.ensures b (subst (λ (t : Tables). StandsFor t b) (sym c.deref-6.ensures) x.base)));
      todo =
          c.in_ok-todo.ensures b p known (subst (λ (t : Tables). StandsFor t b) (sym c.deref-5.ensures) x.base)
          (ap (map (λ a. arc_value a.now)) c.as_slice-6.ensures.value ∙ last ∙ ap (λ (xs : List Advisory). counting.records xs) x.added ∙ ap (λ (q : List Past). records q) came);
    }
