use Rattle.std.proofs.Common.{◌≡◌, ℕ, ◌≤◌, List, [], ◌∷◌, ◌++◌, Bool, true, false, length, map, take, get_or, Some, lt-ltb, sym, ap, ◌∙◌, arith, length-append}
use Rattle.std.proofs.lemmas.Bool.{le-ltb}
use Rattle.std.proofs.lemmas.List.{length-map, map-append, take_all, get_or_default}
use Rattle.std.proofs.lemmas.Option.{get_or_from_slice_get}
use Rattle.std.specs.Prelude.{filter, nat_lt, option_map, slice_get}
use Rattle.std.specs.Arc.{arc_value}
use Rattle.osv_record.specs.Advisories.{Advisory}
use Rattle.snapshot.specs.Subjects.{is_package_hit}
use Rattle.snapshot.proofs.Pages.{full, one_hit, no_hit, all_fit, same_page}
use Rattle.snapshot.proofs.packages.first_package_hits.Goals as goal

-- whether the advisory at an index is a hit, by what was read there
at-index : (h : Advisory → Bool) (none : Advisory) (all : List Advisory) (i : ℕ) (read given : Advisory) (b : Bool) → Some read ≡ slice_get all i → given ≡ read → b ≡ h given → h (get_or all i none) ≡ b
at-index h none all i read given b at same hit = ap h (get_or_from_slice_get all i read none (sym at) ∙ sym same) ∙ sym hit

pub loop-index-preserved-then-not-branch : goal.loop-index-preserved-then-not-branch
loop-index-preserved-then-not-branch g c =
    let all : List Advisory = map (λ a. arc_value a) c.args.records.now in
    let h = is_package_hit c.args.asked.now (option_map (λ t. t.now) c.args.version) in
    let indexes = c.args.indexes.now in
    let k = c.loop-index.index-index in
    let i = get_or indexes k 0 in
    record {
      found = λ none compiled keys within.
          let no = at-index h none all i _ c.deref.result.now _ c.in-Some.ensures c.deref.ensures (c.in_ok-is_package_hit.ensures.hit (c.of-forms.ensures.forms all c.deref.result.now compiled (sym c.in-Some.ensures ∙ ap Some (sym c.deref.ensures))) keys) ∙ c.if-not-branch.true in
          c.loop-index.invariant.found none compiled keys within
          ∙ sym (no_hit h (λ i. get_or all i none) indexes k i c.loop-index-test.true (get_or_default indexes k 0 i c.loop-index-test.true) no);
      fits = c.loop-index.invariant.fits;
      graph = c.in_ok-is_package_hit.ensures.graph ∙ c.loop-index.invariant.graph;
      records = omega (arith, c.in_ok-is_package_hit.ensures.records, c.loop-index.invariant.records);
    }

pub loop-index-preserved : goal.loop-index-preserved
loop-index-preserved g c =
    let all : List Advisory = map (λ a. arc_value a) c.args.records.now in
    let h = is_package_hit c.args.asked.now (option_map (λ t. t.now) c.args.version) in
    let indexes = c.args.indexes.now in
    let k = c.loop-index.index-index in
    let i = get_or indexes k 0 in
    record {
      found = λ none compiled keys within.
          let yes = at-index h none all i _ c.deref.result.now _ c.in-Some.ensures c.deref.ensures (c.in_ok-is_package_hit.ensures.hit (c.of-forms.ensures.forms all c.deref.result.now compiled (sym c.in-Some.ensures ∙ ap Some (sym c.deref.ensures))) keys) ∙ c.if-not-branch.false in
          let here = get_or_from_slice_get all i _ none (sym c.in-Some.ensures) in
          ap (map (λ a. arc_value a.now)) c.in_ok-push.ensures.items ∙ map-append (λ a. arc_value a.now) c.loop-index.found.items (c.in-Some.advisory ∷ [])
          ∙ ap (λ (ys : List Advisory). ys ++ arc_value c.in-Some.advisory.now ∷ []) (c.loop-index.invariant.found none compiled keys within)
          ∙ ap (λ (a : Advisory). filter h (map (λ i. get_or all i none) (take k indexes)) ++ a ∷ []) (sym here)
          ∙ sym (one_hit h (λ i. get_or all i none) indexes k i c.loop-index-test.true (get_or_default indexes k 0 i c.loop-index-test.true) yes);
      fits = omega (arith, c.if-len-size.false, c.len.ensures, c.loop-index.found.ok.0, ap (λ (xs : List _). length xs) c.in_ok-push.ensures.items, length-append c.loop-index.found.items (c.in-Some.advisory ∷ []));
      graph = c.in_ok-is_package_hit.ensures.graph ∙ c.loop-index.invariant.graph;
      records = omega (arith, c.in_ok-is_package_hit.ensures.records, c.loop-index.invariant.records);
    }

pub returns-then-len-size-clause-page : goal.returns-then-len-size-clause-page
returns-then-len-size-clause-page g c none compiled keys within =
    let given : List Advisory = map (λ a. arc_value a) c.args.records.now in
    let h = is_package_hit c.args.asked.now (option_map (λ t. t.now) c.args.version) in
    let indexes = c.args.indexes.now in
    let k = c.loop-index.index-index in
    let i = get_or indexes k 0 in
    let items = c.loop-index.found.items in
    let found : List Advisory = map (λ a. arc_value a.now) items in
    let all : List Advisory = filter h (map (λ i. get_or given i none) indexes) in
    let yes = at-index h none given i _ c.deref.result.now _ c.in-Some.ensures c.deref.ensures (c.in_ok-is_package_hit.ensures.hit (c.of-forms.ensures.forms given c.deref.result.now compiled (sym c.in-Some.ensures ∙ ap Some (sym c.deref.ensures))) keys) ∙ c.if-not-branch.false in
    let r = full h (λ i. get_or given i none) indexes k i found c.args.size c.loop-index-test.true (get_or_default indexes k 0 i c.loop-index-test.true) yes (c.loop-index.invariant.found none compiled keys within)
    (omega (arith, c.if-len-size.true, c.len.ensures, c.loop-index.found.ok.0, c.loop-index.invariant.fits, length-map items (λ a. arc_value a.now))) in
    same_page found (take c.args.size all) true (nat_lt c.args.size (length all)) r.0 (sym (lt-ltb _ _ r.1))

pub returns-clause-page : goal.returns-clause-page
returns-clause-page g c none compiled keys within =
    let given : List Advisory = map (λ a. arc_value a) c.args.records.now in
    let h = is_package_hit c.args.asked.now (option_map (λ t. t.now) c.args.version) in
    let indexes = c.args.indexes.now in
    let items = c.loop-index.found.items in
    let found : List Advisory = map (λ a. arc_value a.now) items in
    let all : List Advisory = filter h (map (λ i. get_or given i none) indexes) in
    let is : found ≡ all =
    c.loop-index.invariant.found none compiled keys within ∙ ap (λ (is : List ℕ). filter h (map (λ i. get_or given i none) is)) (take_all c.loop-index.index-index indexes (omega (arith, c.loop-index-test.false))) in
    let fits : length found ≤ c.args.size = omega (arith, c.loop-index.invariant.fits, length-map items (λ a. arc_value a.now)) in
    let long = ap (λ (ys : List Advisory). length ys) is in
    same_page found (take c.args.size all) false (nat_lt c.args.size (length all)) (all_fit found c.args.size fits ∙ ap (take c.args.size) is) (sym (le-ltb _ _ (omega (arith, fits, long))))
