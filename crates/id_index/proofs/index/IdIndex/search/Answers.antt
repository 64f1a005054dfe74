use Rattle.std.proofs.Common.{◌≡◌, map, ◌∙◌}
use Rattle.std.specs.Prelude.{option_map}
use Rattle.std.specs.Arc.{arc_value}
use Rattle.id_index.proofs.Finding.{found}
use Rattle.id_index.proofs.Heads.{heads}
use Rattle.id_index.proofs.index.IdIndex.search.Goals as goal

pub returns : goal.returns
returns c = λ is up.
    let same : c.as_slice-heads.result.now ≡ heads (λ a. arc_value a) c.args.records.now = c.as_slice-heads.ensures.value ∙ c.self.view_is ∙ is.heads_are in
    found (λ a. arc_value a) c.args.id.now c.head-wanted.result c.args.records.now c.as_slice-heads.result.now c.split_at.result.1.now c.behind-later.result.now c.first-same.result.now
    c.count_below-start.result c.count_upto.result
    (map (λ a. arc_value a) c.split_at_id.result.below.now) (map (λ a. arc_value a) c.split_at_id.result.above.now) (option_map (λ a. arc_value a.now) c.split_at_id.result.found)
    c.head-wanted.ensures.bytes c.head-wanted.ensures.value is.bytes same c.count_below-start.ensures.within c.count_below-start.ensures.point
    c.split_at.ensures.back c.behind-later.ensures c.first-same.ensures c.count_upto.ensures.point c.split_at_id.ensures up
