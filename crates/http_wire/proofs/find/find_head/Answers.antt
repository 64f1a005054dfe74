use Rattle.std.proofs.Common.{◌∙◌, ap, sym, arith, take, length, length-append}
use Rattle.http_wire.proofs.Looking.{looked-nothing}
use Rattle.http_wire.proofs.Texts.{keeps-then, keeps-all, keeps-read, keeps-both, all-seen, seen-grows, seen-stays, nothing-seen, something-seen, none-seen}
use Rattle.http_wire.proofs.find.find_head.Goals as goal

pub reading-init : goal.reading-init
reading-init g c = record { looked = rw c.new-look.ensures (looked-nothing (take 65536 c.args.held.now)); text = keeps-all _; later = omega arith }

pub fill-requires : goal.fill-requires
fill-requires g c =
    let seen = c.front-seen.ensures ∙ ap (take 65536) c.as_slice.ensures.value in
    omega (arith, (all-seen c.reading.held c.front-seen.result.now seen c.if-seen-eq-MOST_HEAD.false).0)

pub returns-then-nothing-clause-found : goal.returns-then-nothing-clause-found
returns-then-nothing-clause-found g c =
    let seen = c.front-seen.ensures ∙ ap (take 65536) c.as_slice.ensures.value in
    let ok = c.in-Ok-eq0.ensures.ok in
    let same = seen-stays c.reading.held c.front-seen.result.now ok.0 c.fill.new.self seen ok.2 (ok.1 ∙ c.in-Ok-eq0.field-0-test) in
    let short = all-seen c.reading.held c.front-seen.result.now seen c.if-seen-eq-MOST_HEAD.false in
    (nothing-seen _ _ _ same c.in_default.ensures.none c.if-nothing.true, omega (arith, ap length same, ap length short.1, short.0), c.in-Ok-eq0.ensures.end c.in-Ok-eq0.field-0-test)

pub returns-then-nothing-clause-text : goal.returns-then-nothing-clause-text
returns-then-nothing-clause-text g c =
    let ok = c.in-Ok-eq0.ensures.ok in
    keeps-then _ _ _ c.reading.invariant.text (keeps-read c.reading.held ok.0 c.fill.new.self _ _ ok.2 ok.3)

pub returns-else-nothing-clause-found : goal.returns-else-nothing-clause-found
returns-else-nothing-clause-found g c =
    let seen = c.front-seen.ensures ∙ ap (take 65536) c.as_slice.ensures.value in
    let ok = c.in-Ok-eq0.ensures.ok in
    let same = seen-stays c.reading.held c.front-seen.result.now ok.0 c.fill.new.self seen ok.2 (ok.1 ∙ c.in-Ok-eq0.field-0-test) in
    let short = all-seen c.reading.held c.front-seen.result.now seen c.if-seen-eq-MOST_HEAD.false in
    let none = c.in_default.ensures.none in
    (none-seen _ _ _ same none, something-seen _ _ _ same none c.if-nothing.false, omega (arith, ap length same, ap length short.1, short.0), c.in-Ok-eq0.ensures.end c.in-Ok-eq0.field-0-test)

pub returns-else-nothing-clause-text : goal.returns-else-nothing-clause-text
returns-else-nothing-clause-text g c =
    let ok = c.in-Ok-eq0.ensures.ok in
    keeps-then _ _ _ c.reading.invariant.text (keeps-read c.reading.held ok.0 c.fill.new.self _ _ ok.2 ok.3)

pub reading-smaller : goal.reading-smaller
reading-smaller g c =
    let ok = c.in-Ok.ensures.ok in
    let seen = c.front-seen.ensures ∙ ap (take 65536) c.as_slice.ensures.value in
    let short = all-seen c.reading.held c.front-seen.result.now seen c.if-seen-eq-MOST_HEAD.false in
    omega (arith, short.0, ok.1, ap length ok.2, length-append c.reading.held ok.0, c.in-Ok.field-0-test)

pub reading-preserved : goal.reading-preserved
reading-preserved g c =
    let ok = c.in-Ok.ensures.ok in
    let seen = c.front-seen.ensures ∙ ap (take 65536) c.as_slice.ensures.value in
    record {
      looked = seen-grows c.reading.held c.front-seen.result.now ok.0 c.fill.new.self _ _ seen c.if-seen-eq-MOST_HEAD.false ok.2 c.search.ensures.looked;
      text = keeps-then _ _ _ c.reading.invariant.text (keeps-read c.reading.held ok.0 c.fill.new.self _ _ ok.2 ok.3);
      later = omega (arith, c.reading.invariant.later, c.fill.ensures.cause.later);
    }

pub returns-in-Err-clause-text : goal.returns-in-Err-clause-text
returns-in-Err-clause-text g c =
    let err = c.in-Err.ensures.err in
    keeps-then _ _ _ c.reading.invariant.text (keeps-both c.reading.held c.fill.new.self _ _ err.0 err.1)

pub returns-in-Err-clause-found : goal.returns-in-Err-clause-found
returns-in-Err-clause-found g c =
    let seen = c.front-seen.ensures ∙ ap (take 65536) c.as_slice.ensures.value in
    let same = ap (take 65536) c.in-Err.ensures.err.0 ∙ sym seen in
    none-seen _ _ _ same c.in_default.ensures.none
