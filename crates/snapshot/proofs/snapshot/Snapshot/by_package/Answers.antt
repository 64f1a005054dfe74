use Rattle.std.proofs.Common.{◌≡◌, ℕ, ◌<◌, ◌++◌, leb, List, All, arith, length, map, get_or, sym, ap, subst, ◌∙◌, length-append}
use Rattle.std.specs.Prelude.{Option, option_map, filter}
use Rattle.std.specs.Arc.{arc_value}
use Rattle.std.specs.declared.vec.Vec.{Vec}
use Rattle.std.specs.List.Sorted.{IsStrictlySortedBy}
use Rattle.std.specs.Ordering.{nat_cmp}
use Rattle.std.proofs.lemmas.List.{length-map}
use Rattle.std.proofs.lemmas.Result.{IfOk-weaker}
use Rattle.osv_record.specs.Advisories.{Advisory}
use Rattle.history.specs.Prefixes.{records}
use Rattle.impact_job.specs.Order.{Ascend}
use Rattle.impact_job.specs.declared.tables.Tables.{Tables}
use Rattle.impact_job.proofs.Prefixes.{kept-ascend}
use Rattle.package_index.specs.Listing.{listed}
use Rattle.package_index.proofs.Rising.{listed-rising}
use Rattle.snapshot.specs.Pages.{is_above, cut}
use Rattle.form_index.specs.Index.{AreIndexed}
use Rattle.snapshot.specs.Subjects.{is_package_hit}
use Rattle.snapshot.proofs.Listed.{listed-end, nothing}
use Rattle.snapshot.proofs.snapshot.Snapshot.by_package.Goals as goal

pub returns-clause-page : goal.returns-clause-page
returns-clause-page g c = λ p s.
    let asked = c.args.asked.now in
    let version : Option (List ℕ) = option_map (λ t. t.now) c.args.version in
    let after : Option (List ℕ) = option_map (λ id. id.now) c.args.after in
    let all : List Advisory = map (λ a. arc_value a) c.as_slice-records.result.now in
    let above : List Advisory = map (λ a. arc_value a) c.all_above.result.now in
    let kept : all ≡ records p = ap (map (λ a. arc_value a)) (c.as_slice-records.ensures.value ∙ ap (λ (v : Vec _ _). v.items) (c.deref-2.ensures ∙ ap (λ (t : Tables). arc_value t.records) c.deref.ensures)) ∙ s.tables.kept in
    let up : Ascend all = subst (λ (ys : List Advisory). Ascend ys) (sym kept) (kept-ascend p) in
    let front = (c.all_above.ensures.last up).0 in
    let whole : all ≡ front ++ above = (c.all_above.ensures.last up).1 in
    let long = ap (λ (ys : List Advisory). length ys) whole ∙ length-append front above in
    let start : c.saturating_sub-start.result ≡ length front = omega (arith, c.saturating_sub-start.ensures, long, length-map c.as_slice-records.result.now (λ a. arc_value a), length-map c.all_above.result.now (λ a. arc_value a)) in
    let here : c.listed.result.now ≡ listed all asked =
    c.listed.ensures ∙ s.packages asked ∙ ap (λ (ys : List Advisory). listed ys asked) (sym (ap (map (λ a. arc_value a)) (c.as_slice-records.ensures.value ∙ ap (λ (v : Vec _ _). v.items) (c.deref-2.ensures ∙ ap (λ (t : Tables). arc_value t.records) c.deref.ensures)))) in
    let rising = subst (λ (is : List ℕ). IsStrictlySortedBy nat_cmp is) (sym here) (listed-rising 0 all asked) in
    let indexes : c.from_index-indexes.result.now ≡ filter (λ i. leb (length front) i) (listed all asked) =
    c.from_index-indexes.ensures rising ∙ ap (filter (λ i. leb c.saturating_sub-start.result i)) here ∙ ap (λ (n : ℕ). filter (λ i. leb n i) (listed all asked)) start in
    let part = listed-end asked version nothing front above all whole c.from_index-indexes.result.now indexes in
    let within = subst (λ (n : ℕ). All (λ i. i < n) c.from_index-indexes.result.now) (length-map c.as_slice-records.result.now (λ a. arc_value a)) part.0 in
    let compiled =
    subst (λ (rs : List _). AreIndexed (map (λ a. arc_value a) rs) c.args.self.now.ranges) (sym (c.as_slice-records.ensures.value ∙ ap (λ (v : Vec _ _). v.items) (c.deref-2.ensures ∙ ap (λ (t : Tables). arc_value t.records) c.deref.ensures))) s.ranges
    in
    let hits : filter (is_package_hit asked version) (map (λ i. get_or all i nothing) c.from_index-indexes.result.now) ≡ filter (is_above after) (filter (is_package_hit asked version) (records p)) =
    part.1 ∙ c.all_above.ensures.hits up (is_package_hit asked version) ∙ ap (λ (ys : List Advisory). filter (is_above after) (filter (is_package_hit asked version) ys)) kept in
    IfOk-weaker c.first_package_hits.result _ _ (λ f e. e ∙ ap (λ (ys : List Advisory). cut c.args.size ys) hits) (c.first_package_hits.ensures.page nothing compiled c.in_ok-keys.ensures within)

pub returns-clause-listed : goal.returns-clause-listed
returns-clause-listed g c = λ p s.
    let asked = c.args.asked.now in
    let version : Option (List ℕ) = option_map (λ t. t.now) c.args.version in
    let after : Option (List ℕ) = option_map (λ id. id.now) c.args.after in
    let all : List Advisory = map (λ a. arc_value a) c.as_slice-records.result.now in
    let above : List Advisory = map (λ a. arc_value a) c.all_above.result.now in
    let kept : all ≡ records p = ap (map (λ a. arc_value a)) (c.as_slice-records.ensures.value ∙ ap (λ (v : Vec _ _). v.items) (c.deref-2.ensures ∙ ap (λ (t : Tables). arc_value t.records) c.deref.ensures)) ∙ s.tables.kept in
    let up : Ascend all = subst (λ (ys : List Advisory). Ascend ys) (sym kept) (kept-ascend p) in
    let front = (c.all_above.ensures.last up).0 in
    let whole : all ≡ front ++ above = (c.all_above.ensures.last up).1 in
    let long = ap (λ (ys : List Advisory). length ys) whole ∙ length-append front above in
    let start : c.saturating_sub-start.result ≡ length front = omega (arith, c.saturating_sub-start.ensures, long, length-map c.as_slice-records.result.now (λ a. arc_value a), length-map c.all_above.result.now (λ a. arc_value a)) in
    let here : c.listed.result.now ≡ listed all asked =
    c.listed.ensures ∙ s.packages asked ∙ ap (λ (ys : List Advisory). listed ys asked) (sym (ap (map (λ a. arc_value a)) (c.as_slice-records.ensures.value ∙ ap (λ (v : Vec _ _). v.items) (c.deref-2.ensures ∙ ap (λ (t : Tables). arc_value t.records) c.deref.ensures)))) in
    let rising = subst (λ (is : List ℕ). IsStrictlySortedBy nat_cmp is) (sym here) (listed-rising 0 all asked) in
    let indexes : c.from_index-indexes.result.now ≡ filter (λ i. leb (length front) i) (listed all asked) =
    c.from_index-indexes.ensures rising ∙ ap (filter (λ i. leb c.saturating_sub-start.result i)) here ∙ ap (λ (n : ℕ). filter (λ i. leb n i) (listed all asked)) start in
    let part = listed-end asked version nothing front above all whole c.from_index-indexes.result.now indexes in
    omega (arith, c.first_package_hits.ensures.records, part.2, ap (λ (ys : List Advisory). length (listed ys asked)) kept)
