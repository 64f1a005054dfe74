use Rattle.std.proofs.Common.{◌≡◌, ℕ, ◌+◌, ◌∷◌, [], List, length, map, get_or, sym, ap, subst, ◌∙◌, arith}
use Rattle.std.specs.Arc.{arc_value}
use Rattle.std.proofs.lemmas.List.{length-append, length-map}
use Rattle.osv_record.specs.Advisories.{Advisory}
use Rattle.id_index.specs.Heads.{head, AreFirst, BeginsWithBytes}
use Rattle.id_index.proofs.Firsts.{first-more, seen-at}
use Rattle.id_index.proofs.index.put_heads.Goals as goal

pub loop-place-preserved : goal.loop-place-preserved
loop-place-preserved c =
    let heads = c.loop-place.heads.items in
    let all = map (λ a. arc_value a) c.args.records.now in
    let i = c.loop-place.invariant in
    let r : Advisory = arc_value c.index-records-place.result in
    let id : c.as_bytes.result.now ≡ r.id = c.as_bytes.ensures.value ∙ c.as_str.ensures.value ∙ ap (λ (x : Advisory). x.id) (c.behind-records.view_is ∙ c.deref.ensures) in
    record {
      first = λ before.
          subst (λ (hs : List ℕ). AreFirst hs all) (sym c.in_ok-push.ensures.items)
          (first-more heads all r c.head.result (i.first before) (omega (arith, i.count, c.loop-place-test.true, c.requires, length-map c.args.records.now (λ a. arc_value a)))
          (seen-at (λ a. arc_value a) c.args.records.now c.loop-place.place c.index-records-place.result (omega (arith, c.loop-place-test.true, c.requires)) c.index-records-place.is ∙ ap (λ (k : ℕ). get_or all k r) (sym i.count))
          (c.head.ensures.value ∙ ap head id) (subst (λ (k : List ℕ). BeginsWithBytes 16 k) id c.head.ensures.bytes));
      count = ap (λ (hs : List ℕ). length hs) c.in_ok-push.ensures.items ∙ length-append heads (c.head.result ∷ []) ∙ ap (λ (n : ℕ). n + 1) i.count;
    }
