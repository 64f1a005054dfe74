use Rattle.std.proofs.Common.{◌≡◌, ◌<◌, ◌∙◌, ℕ, List, Ok, true, length, get_or, refl, ap, subst, arith, length-append}
use Rattle.std.specs.Prelude.{◌==◌}
use Rattle.std.proofs.lemmas.List.{length-drop}
use Rattle.line_input.specs.Lines.{NoneBefore, behind}
use Rattle.line_input.specs.Window.{items}
use Rattle.line_input.specs.declared.reader.Next.TheVariants.{Here}
use Rattle.line_input.proofs.Standing.{beyond, found, held_more, stopped}
use Rattle.line_input.proofs.Filling.{last_or_end, none_grows, none_same, not_ok}
use Rattle.line_input.proofs.reader.LineReader.advance.Goals as goal

pub returns-in-Some-clause-advances : goal.returns-in-Some-clause-advances
returns-in-Some-clause-advances g c = λ input s.
    let at = c.in-Some.at in
    let p = subst (λ (t : List ℕ). (at < length t) × NoneBefore t at × ((get_or t at 0 == 10) ≡ true)) c.as_slice-text.ensures c.in-Some.ensures.some in
    found input c.args.self.now c.reading.self _ (g.S.Source.left c.reading.source) at c.reading.invariant.given c.reading.invariant.passed p.0 p.1 p.2
    (record { items = refl; len = refl; given = refl; passed = refl; taken = refl; limit = refl; ended = refl }) (c.reading.invariant.reads input s)

pub returns-in_err-fill-clause-advances : goal.returns-in_err-fill-clause-advances
returns-in_err-fill-clause-advances g c = λ input s.
    let f = c.in_err-fill.ensures.fills in
    let h = c.reading.invariant.reads input s in
    stopped input c.args.self.now c.fill.new.self (g.S.Source.left c.fill.new.source) c.from_residual.result (λ n. not_ok c.from_residual.result n c.from_residual.ensures.0) (f.same.2 ∙ c.reading.invariant.passed)
    (held_more (behind c.args.self.now.passed input) (length input) c.reading.self c.fill.new.self (g.S.Source.left c.reading.source) (g.S.Source.left c.fill.new.source) _ c.reading.invariant.given f (c.in_err-fill.ensures.at_end h.end).0 h)

pub reading-preserved : goal.reading-preserved
reading-preserved g c =
    let f = c.in_ok-fill.ensures.fills in
    let i = c.reading.invariant in
    let r = c.reading.self in
    let n = c.fill.new.self in
    let long = ap length f.items in
    let sum = length-append (items r.window) f.more in
    record {
      searched = omega (arith, ap length c.as_slice-text.ensures, long, sum);
      none = none_grows c.as_slice-text.result.now (items n.window) (items r.window) f.more c.as_slice-text.ensures f.items c.in_default.ensures.none;
      given = f.same.1 ∙ i.given;
      passed = f.same.2 ∙ i.passed;
      limit = f.same.3 ∙ i.limit;
      reads = λ input s. let h = i.reads input s in
          held_more (behind c.args.self.now.passed input) (length input) r n (g.S.Source.left c.reading.source) (g.S.Source.left c.fill.new.source) _ i.given f (c.in_ok-fill.ensures.at_end h.end).0 h;
      ends = λ k. (c.in_ok-fill.ensures.at_end (i.ends k)).0;
      fewer = omega (arith, f.taken, f.same.1, i.given, long, sum, length-drop n.given (items n.window), length-drop r.given (items r.window), (f.here (ap Ok c.in-Here.is)).1, n.fits.0, i.fewer);
      later = omega (arith, i.later, c.fill.ensures.later);
    }

pub returns-in-End-clause-advances : goal.returns-in-End-clause-advances
returns-in-End-clause-advances g c = λ input s.
    let f = c.in_ok-fill.ensures.fills in
    let i = c.reading.invariant in
    let h = i.reads input s in
    let e = c.in_ok-fill.ensures.at_end h.end in
    let is = ap Ok c.in-End.is in
    last_or_end input c.args.self.now c.fill.new.self (g.S.Source.left c.fill.new.source) c.last_line.new.self c.last_line.result (f.same.1 ∙ i.given) (f.same.2 ∙ i.passed)
    (none_same c.as_slice-text.result.now (items c.fill.new.self.window) (items c.reading.self.window) f.more c.as_slice-text.ensures f.items (f.end is).0 c.in_default.ensures.none)
    (omega (arith, (f.end is).1, f.same.3, i.limit)) (e.1 is)
    (held_more (behind c.args.self.now.passed input) (length input) c.reading.self c.fill.new.self (g.S.Source.left c.reading.source) (g.S.Source.left c.fill.new.source) _ i.given f e.0 h)
    c.last_line.ensures.here c.last_line.ensures.end c.last_line.ensures.either

pub returns-in-End-clause-fewer : goal.returns-in-End-clause-fewer
returns-in-End-clause-fewer g c = λ e.
    let f = c.in_ok-fill.ensures.fills in
    let i = c.reading.invariant in
    let r = c.reading.self in
    let n = c.last_line.new.self in
    let is : c.last_line.result ≡ Here = cc in
    let m = c.last_line.ensures.here is in
    omega (
      arith,
      m.0.taken,
      m.0.given,
      ap length m.0.items,
      m.1,
      f.taken,
      (f.end (ap Ok c.in-End.is)).0,
      ap length f.items,
      length-append (items r.window) f.more,
      length-drop n.given (items n.window),
      length-drop r.given (items r.window),
      i.given,
      i.fewer,
    )

pub returns-in-TooLarge-clause-advances : goal.returns-in-TooLarge-clause-advances
returns-in-TooLarge-clause-advances g c = λ input s.
    let f = c.in_ok-fill.ensures.fills in
    let i = c.reading.invariant in
    let h = i.reads input s in
    beyond input c.args.self.now c.fill.new.self (g.S.Source.left c.fill.new.source) (f.same.2 ∙ i.passed) (omega (arith, f.too_large (ap Ok c.in-TooLarge.is), f.same.3, i.limit))
    (held_more (behind c.args.self.now.passed input) (length input) c.reading.self c.fill.new.self (g.S.Source.left c.reading.source) (g.S.Source.left c.fill.new.source) _ i.given f (c.in_ok-fill.ensures.at_end h.end).0 h)
