use Rattle.std.proofs.Common.{◌≡◌, ◌+◌, List, [], ◌∷◌, ◌++◌, map, take, refl, sym, ap, subst, ◌∙◌}
use Rattle.std.specs.Prelude.{IfSome, Some, option_map, slice_get}
use Rattle.std.specs.Arc.{arc_value}
use Rattle.std.proofs.lemmas.List.{map_more, take_all}
use Rattle.std.proofs.lemmas.Option.{slice_get-map, slice_get_read}
use Rattle.osv_record.specs.Advisories.{Advisory}
use Rattle.form_index.specs.Index.{ArePlaced, IsIn, Part}
use Rattle.form_index.proofs.growing.placed.Goals as goal

pub loop-place-preserved : goal.loop-place-preserved
loop-place-preserved c = λ parts old count stay kept.
    let records = c.args.records.now in
    let k = c.loop-place.place in
    let item = c.index-records-place.result in
    let own : Advisory = arc_value item in
    let at : slice_get (map (λ a. arc_value a) records) k ≡ Some own = slice_get-map (λ a. arc_value a) records k ∙ ap (option_map (λ a. arc_value a)) (slice_get_read records _ k item refl c.loop-place-test.true c.index-records-place.is) in
    let there = c.kept_at-kept.ensures parts old (map (λ a. arc_value a) records) own count stay kept at in
    let before : List Advisory = map (λ a. arc_value a) (take k records) in
    let forms = c.put.new.growing.forms.items in
    let places = c.put.new.growing.places.items in
    let made = c.in_ok-put.ensures parts before count (c.loop-place.invariant parts old count stay kept) (subst (λ (r : Advisory). IfSome c.kept_at-kept.result (IsIn parts r)) (sym c.deref.ensures) there) in
    let longer : ArePlaced parts forms (before ++ own ∷ []) places = subst (λ (r : Advisory). ArePlaced parts forms (before ++ r ∷ []) places) c.deref.ensures made in
    let more : map (λ a. arc_value a) (take (k + 1) records) ≡ before ++ own ∷ [] =
    map_more (λ a. arc_value a) records k item c.loop-place-test.true ∙ ap (λ (x : _). before ++ arc_value x ∷ []) (sym c.index-records-place.is) in
    subst (λ (rs : List Advisory). ArePlaced parts forms rs places) (sym more) longer

pub returns : goal.returns
returns c = λ parts old count stay kept.
    let places = c.loop-place.growing.places.items in
    let whole = take_all c.loop-place.place c.args.records.now c.loop-place-test.false in
    subst (λ (fs : Part). ArePlaced parts fs (map (λ a. arc_value a) c.args.records.now) places) (sym c.shrink_to_fit.ensures.items)
    (subst (λ (rs : List _). ArePlaced parts c.loop-place.growing.forms.items (map (λ a. arc_value a) rs) places) whole (c.loop-place.invariant parts old count stay kept))
