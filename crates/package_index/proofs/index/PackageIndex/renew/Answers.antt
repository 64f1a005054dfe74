use Rattle.std.proofs.Common.{◌≡◌, ℕ, ◌&&◌, ◌||◌, Bool, eqb, List, length, map, take, get_or, sym, ap, ◌∙◌, arith}
use Rattle.std.specs.Arc.{arc_value}
use Rattle.std.specs.List.{list_any}
use Rattle.std.proofs.lemmas.List.{take_all, length-map}
use Rattle.std.proofs.lemmas.List.Folds.{list_any_more}
use Rattle.osv_prim.specs.declared.package.PackageKey.{PackageKey as Key}
use Rattle.package_index.specs.Listing.{lists_at, listed}
use Rattle.package_index.specs.Numbers.{number_of}
use Rattle.package_index.specs.Noted.{noted_at, moved_at}
use Rattle.package_index.proofs.Rising.{has, same-members, listed-rising}
use Rattle.package_index.proofs.Grouping.{under-members}
use Rattle.package_index.proofs.Renewing.{listed-at, renewed, or_later}
use Rattle.package_index.proofs.index.PackageIndex.renew.Goals as goal

pub loop-place-preserved : goal.loop-place-preserved
loop-place-preserved c =
    let places = c.as_slice-place-items.result.now in
    let k = c.loop-place.place-index in
    record {
      sound = c.in_ok-add_at.ensures.sound;
      noted = λ e t j.
          let key : Key = record { ecosystem = e; name = t } in
          let test = λ (a : ℕ). lists_at (map (λ r. arc_value r) c.args.records.now) key a && eqb a j in
          let before = moved_at c.args.self.now.entries c.args.moves.now.moved.items (length c.args.records.now) (number_of c.args.self.now.names t) (number_of c.args.self.now.ecosystems e) j in
          c.in_ok-add_at.ensures.noted e t j
          ∙ ap (λ (b : Bool). b || test (get_or places k 0)) (c.loop-place.invariant.noted e t j)
          ∙ or_later before (list_any test (take k places)) (test (get_or places k 0))
          ∙ ap (λ (b : Bool). before || b) (sym (list_any_more test places k 0 c.loop-place-test.true));
    }

pub returns : goal.returns
returns c old m before asked =
    let new = map (λ r. arc_value r) c.args.records.now in
    let index = c.args.self.now in
    let name = number_of index.names asked.name in
    let ecosystem = number_of index.ecosystems asked.ecosystem in
    let moved = c.args.moves.now.moved.items in
    let added = c.args.moves.now.added.items in
    let places = c.as_slice-place-items.result.now in
    let old_is : (i : ℕ) → noted_at index.entries name ecosystem i ≡ lists_at old asked i =
    λ i. sym (under-members index.entries name ecosystem i) ∙ ap (λ (xs : List ℕ). has xs i) (before asked) ∙ listed-at old asked i
    in
    same-members _ (listed new asked) (c.in_ok-index.ensures.ascending asked) (listed-rising 0 new asked)
    (λ i. c.in_ok-index.ensures.same asked i ∙ c.loop-place.invariant.noted asked.ecosystem asked.name i
    ∙ ap (λ (qs : List ℕ). moved_at index.entries moved (length c.args.records.now) name ecosystem i || list_any (λ a. lists_at new asked a && eqb a i) qs)
    (take_all c.loop-place.place-index places (omega (arith, c.loop-place-test.false)) ∙ c.as_slice-place-items.ensures.value)
    ∙ ap (λ (n : ℕ). moved_at index.entries moved n name ecosystem i || list_any (λ a. lists_at new asked a && eqb a i) added) (sym (length-map c.args.records.now (λ r. arc_value r)))
    ∙ renewed asked old new moved added m.are index.entries name ecosystem old_is i ∙ sym (listed-at new asked i))
