use Rattle.std.proofs.Common.{ℕ, List, ap, ◌∙◌}
use Rattle.std.specs.List.{position_from}
use Rattle.std.specs.Str.{bytes_eq}
use Rattle.osv_prim.specs.Lists.{pieces}
use Rattle.osv_prim.proofs.Cuts.{position_is}
use Rattle.osv_prim.proofs.lists.Lists+u8.position.Goals as goal

pub returns : goal.returns
returns c =
    let found = λ (lists : List (List ℕ)). position_from (bytes_eq c.args.text.now) 0 lists in
    position_is (bytes_eq c.args.text.now) c.args.self.now c.position_in.result
    (c.position_in.ensures
    ∙ ap (λ (bytes : List ℕ). found (pieces 0 c.as_slice-2.result.now bytes)) c.as_slice.ensures.value
    ∙ ap (λ (ends : List ℕ). found (pieces 0 ends c.self.inside.items.items)) c.as_slice-2.ensures.value
    ∙ ap found c.self.view_is)
