use Rattle.std.proofs.Common.{◌≡◌, ℕ, Bool, true, false, ◌&&◌, ◌||◌, eqb, leb, List, [], ◌∷◌, length, map, take, Bor, refl, sym, ap, subst, ◌∙◌, arith}
use Rattle.std.specs.List.{list_any}
use Rattle.std.proofs.lemmas.List.{take_all, length-map}
use Rattle.std.proofs.lemmas.List.Folds.{list_any-append}
use Rattle.std.proofs.lemmas.Result.{IfOk-weaker}
use Rattle.history.specs.Prefixes.{graphs}
use Rattle.package_index.proofs.Matching.{any-more}
use Rattle.package_index.proofs.Rising.{has}
use Rattle.set_hits.specs.Places.{Place, places_of}
use Rattle.repo_index.specs.Index.{Index, Kept, AscendFrom, kept_seen, found, has_at, picked}
use Rattle.repo_index.proofs.AllHits.{all-hits}
use Rattle.repo_index.proofs.Listing.{alike}
use Rattle.repo_index.proofs.Picked.{picked-rising, picked-members, picked-fewer}
use Rattle.repo_index.proofs.Placing.{any-map, any-both}
use Rattle.repo_index.proofs.Zipped.{one-item}
use Rattle.repo_index.proofs.index.RepoIndex.hits.Goals as goal

or-false : (b : Bool) → (b || false) ≡ b
or-false true = refl
or-false false = refl

pub returns-in-len1 : goal.returns-in-len1
returns-in-len1 c = λ p commit is at.
    let self : Index = c.args.self.now in
    let place = c.place-item.result in
    let ks : List Kept = map kept_seen c.under.result.now in
    let here : ks ≡ found self place.0.now = c.under.ensures in
    let places : (place.0.now, place.1) ∷ [] ≡ places_of (graphs p) commit =
    sym (ap (map (λ x. (x.0.now, x.1))) (one-item c.args.places.now place c.in-len1.len_at_least c.in-len1.len_below c.place-item.is)) ∙ at
    in
    let up : AscendFrom 0 ks = subst (λ (xs : List Kept). AscendFrom 0 xs) (sym here) (is.ascend place.0.now) in
    let whole =
    all-hits p commit self is c.args.start (picked place.1 c.args.start ks) (picked-rising place.1 c.args.start ks)
    (λ i. picked-members place.1 c.args.start 0 ks up i
    ∙ ap (λ (b : Bool). leb c.args.start i && b)
    (ap (list_any (has_at place.1 i)) here ∙ sym (or-false (list_any (has_at place.1 i) (found self place.0.now)))
    ∙ ap (list_any (λ (x : Place). list_any (has_at x.1 i) (found self x.0))) places))
    in IfOk-weaker c.picked.result _ _ (λ v e. e ∙ ap (take c.args.most) whole) c.picked.ensures

pub loop-place-preserved : goal.loop-place-preserved
loop-place-preserved c = λ up i.
    let self : Index = c.args.self.now in
    let places = c.args.places.now in
    let k : ℕ = c.loop-place.place-index in
    let place = c.place-item-in-loop-place.result in
    let start : ℕ = c.args.start in
    let ks : List Kept = map kept_seen c.under-kept.result.now in
    let here : ks ≡ found self place.0.now = c.under-kept.ensures in
    let rising : AscendFrom 0 ks = subst (λ (xs : List Kept). AscendFrom 0 xs) (sym here) (up place.0.now) in
    let all = picked place.1 start ks in
    let own : c.as_slice.result.now ≡ all =
    c.as_slice.ensures.value ∙ c.in_ok-own.ensures ∙ take_all (length c.under-kept.result.now) all (omega (arith, picked-fewer place.1 start ks, length-map c.under-kept.result.now kept_seen))
    in
    let test = λ (x : Bor (List ℕ) × ℕ). leb start i && list_any (has_at x.1 i) (found self x.0.now) in
    ap (λ (xs : List ℕ). has xs i) c.in_ok-extend_from_slice.ensures.items ∙ list_any-append (λ x. eqb x i) c.loop-place.indexes.items c.as_slice.result.now
    ∙ ap (λ (b : Bool). b || has c.as_slice.result.now i) (c.loop-place.invariant up i)
    ∙ ap (λ (b : Bool). list_any test (take k places) || b)
    (ap (λ (xs : List ℕ). has xs i) own ∙ picked-members place.1 start 0 ks rising i ∙ ap (λ (xs : List Kept). leb start i && list_any (has_at place.1 i) xs) here)
    ∙ sym (any-more test places k place c.loop-place-test.true c.place-item-in-loop-place.is)

pub returns : goal.returns
returns c = λ p commit is at.
    let self : Index = c.args.self.now in
    let places = c.args.places.now in
    let start : ℕ = c.args.start in
    let items : List ℕ = c.sort_distinct.new.items.items in
    c.truncate.ensures.items
    ∙ ap (take c.args.most)
    (all-hits p commit self is start items c.in_ok-sort_distinct.ensures.strictly
    (λ i. c.in_ok-sort_distinct.ensures.same (λ x. eqb x i) (alike i) ∙ c.loop-place.invariant is.ascend i
    ∙ ap (list_any (λ x. leb start i && list_any (has_at x.1 i) (found self x.0.now))) (take_all c.loop-place.place-index places (omega (arith, c.loop-place-test.false)))
    ∙ any-both (leb start i) (λ x. list_any (has_at x.1 i) (found self x.0.now)) places
    ∙ ap (λ (b : Bool). leb start i && b)
    (sym (any-map (λ x. (x.0.now, x.1)) (λ (x : Place). list_any (has_at x.1 i) (found self x.0)) places) ∙ ap (list_any (λ (x : Place). list_any (has_at x.1 i) (found self x.0))) at)))
