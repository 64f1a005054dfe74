use Rattle.std.proofs.Common.{List, map, ap, sym, subst, ◌∙◌}
use Rattle.std.specs.Prelude.{option_map}
use Rattle.std.specs.Arc.{arc_value}
use Rattle.std.specs.declared.vec.Vec.{Vec}
use Rattle.impact_job.specs.declared.tables.Tables.{Tables}
use Rattle.id_index.specs.Heads.{IsIndexOf}
use Rattle.snapshot.proofs.Finding.{found-in}
use Rattle.snapshot.proofs.snapshot.Snapshot.find.Goals as goal

pub returns : goal.returns
returns c = λ p s.
    let same = c.as_slice.ensures.value ∙ ap (λ (v : Vec _ _). v.items) (c.deref-2.ensures ∙ ap (λ (t : Tables). arc_value t.records) c.deref.ensures) in
    found-in (λ a. arc_value a) c.as_slice.result.now p c.args.id.now (option_map (λ a. arc_value a.now) c.find.result)
    (ap (map (λ a. arc_value a)) same ∙ s.tables.kept)
    (c.find.ensures (subst (λ (rs : List _). IsIndexOf c.args.self.now.ids (map (λ a. arc_value a) rs)) (sym same) s.ids))
