use Rattle.std.proofs.Common.{◌<◌, ◌||◌, take, get_or, sym, ap, subst, ◌∙◌, arith}
use Rattle.std.specs.List.{list_any, zip}
use Rattle.std.proofs.lemmas.List.{take_all}
use Rattle.std.proofs.lemmas.List.Folds.{list_any_more}
use Rattle.package_index.specs.Noted.{is_moved_entry}
use Rattle.package_index.proofs.Kept.{zip-long, zip-at}
use Rattle.package_index.proofs.moving.moved_entries.Goals as goal

pub loop-index-preserved : goal.loop-index-preserved
loop-index-preserved c =
    let keys = c.args.keys.now in
    let places = c.args.places.now in
    let i = c.loop-index.index in
    let size = c.requires in
    let within = c.loop-index-test.true in
    let at = zip-at keys places i (0, 0) 0 size within in
    record {
      given = λ names ecosystems all.
          let here = all i ((0, 0), 0) (omega (arith, zip-long keys places size, within)) in
          c.in_ok-put_moved.ensures.given names ecosystems (c.loop-index.invariant.given names ecosystems all) (subst (λ e. e.0.0 < names) at here.0) (subst (λ e. e.0.1 < ecosystems) at here.1);
      noted = λ n m j.
          let test = is_moved_entry c.args.moved.now c.args.count n m j in
          c.in_ok-put_moved.ensures.noted n m j
          ∙ ap (λ b. b || test (get_or keys i (0, 0), get_or places i 0)) (c.loop-index.invariant.noted n m j)
          ∙ ap (λ e. list_any test (take i (zip keys places)) || test e) (sym at)
          ∙ sym (list_any_more test (zip keys places) i ((0, 0), 0) (omega (arith, zip-long keys places size, within)));
    }

pub returns-clause-noted : goal.returns-clause-noted
returns-clause-noted c n m j =
    let zipped = zip c.args.keys.now c.args.places.now in
    c.loop-index.invariant.noted n m j
    ∙ ap (λ es. list_any (is_moved_entry c.args.moved.now c.args.count n m j) es) (take_all c.loop-index.index zipped (omega (arith, zip-long c.args.keys.now c.args.places.now c.requires, c.loop-index-test.false)))
