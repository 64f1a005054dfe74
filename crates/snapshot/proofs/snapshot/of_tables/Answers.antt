use Rattle.std.proofs.Common.{◌≡◌, List, map, sym, ap, subst, ◌∙◌}
use Rattle.std.specs.Arc.{arc_value}
use Rattle.std.specs.List.{AllZip}
use Rattle.impact_job.specs.Tables.{AreSetsOf}
use Rattle.std.specs.declared.vec.Vec.{Vec}
use Rattle.osv_record.specs.Advisories.{Advisory}
use Rattle.history.specs.Prefixes.{records}
use Rattle.impact_job.specs.declared.tables.Tables.{Tables}
use Rattle.id_index.specs.Heads.{IsIndexOf}
use Rattle.package_index.specs.Listing.{listed}
use Rattle.record_moves.specs.Moved.{IsMoved}
use Rattle.form_index.specs.Index.{AreIndexed}
use Rattle.snapshot.proofs.snapshot.of_tables.Goals as goal

pub returns-clause-stands : goal.returns-clause-stands
returns-clause-stands c = λ b p old moved s.
    let items = c.as_slice-records.ensures.value ∙ ap (λ (v : Vec _ _). v.items) (c.deref-2.ensures ∙ ap (λ (t : Tables). arc_value t.records) c.deref.ensures) in
    let kept : map (λ a. arc_value a) c.as_slice-records.result.now ≡ records p = ap (map (λ a. arc_value a)) items ∙ s.kept in
    let here = subst (λ (rs : List Advisory). IsMoved c.args.moves.now (records b) rs) (sym kept) moved in
    let compiled = subst (λ (rs : List Advisory). AreIndexed rs c.args.base.now.ranges) old.tables.kept old.ranges in
    record {
      tables = s;
      packages = λ asked.
          c.in_ok-packages.ensures (records b) here (λ key. old.packages key ∙ ap (λ (rs : List Advisory). listed rs key) old.tables.kept) asked
          ∙ ap (λ (rs : List _). listed (map (λ a. arc_value a) rs) asked) items;
      repos = c.in_ok-repos.ensures b p old.repos moved kept (subst (λ (ks : List (List _)). AllZip (AreSetsOf p) (records p) ks) (sym (c.as_slice.ensures.value ∙ ap (λ (t : Tables). t.sets.items) c.deref-3.ensures)) s.sets);
      ranges = subst (λ (rs : List _). AreIndexed (map (λ a. arc_value a) rs) c.in_ok-ranges.ranges) items (c.in_ok-ranges.ensures (records b) here compiled);
      ids =
          subst (λ (rs : List _). IsIndexOf c.in_ok-ids.ids (map (λ a. arc_value a) rs)) items
          (c.in_ok-ids.ensures (records b) here (subst (λ (rs : List Advisory). IsIndexOf c.args.base.now.ids rs) old.tables.kept old.ids));
    }
