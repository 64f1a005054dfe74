use Rattle.std.proofs.Common.{ℕ, List, length, map, sym, ap, subst, ◌∙◌}
use Rattle.std.specs.Arc.{arc_value}
use Rattle.id_index.specs.Heads.{AreFirst}
use Rattle.id_index.proofs.Firsts.{first-known}
use Rattle.id_index.proofs.index.put_at.Goals as goal

pub returns-in_ok-push : goal.returns-in_ok-push
returns-in_ok-push c =
    record {
      first = λ before at.
          let all = map (λ a. arc_value a) c.args.records.now in
          subst (λ (hs : List ℕ). AreFirst hs all) (sym c.in_ok-push.ensures.items)
          (first-known (λ a. arc_value a) c.put_heads.new.heads.items c.args.records.now c.args.known c.args.place (c.in_ok-put_heads.ensures.first before) (sym (ap (λ (hs : List ℕ). length hs) c.as_slice.ensures.value) ∙ c.if-as_slice-place.true) c.requires at);
    }
