use Rattle.std.proofs.Common.{◌≡◌, ◌++◌, List, ℕ, length, take, drop, append_assoc, arith, sym, ap, ◌∙◌}
use Rattle.std.proofs.lemmas.List.{take-append-drop}
use Rattle.std.proofs.lemmas.Result.{err_from_is_err_and}
use Rattle.fast_export.specs.Stream.{stream, answer}
use Rattle.tests_streams.proofs.feeding.read_in.Goals as goal

-- the front that was read, the piece and what is behind it
joined : (front piece after rest text : List ℕ) (n : ℕ) → piece ≡ take n rest → after ≡ drop n rest → front ++ rest ≡ text → (front ++ piece) ++ after ≡ text
joined front piece after rest text n a b e = rw (a, b) (append_assoc front (take n rest) (drop n rest) ∙ ap (λ (l : List ℕ). front ++ l) (take-append-drop n rest) ∙ e)

pub returns-in_err-feed-clause-err : goal.returns-in_err-feed-clause-err
returns-in_err-feed-clause-err c =
    let p = err_from_is_err_and c.from_residual-in_err-feed.result c.from_residual-in_err-feed.ensures.1 in
    let fed = c.loop-rest.invariant.fed in
    let whole = joined fed.0 c.split_at.result.0.now c.split_at.result.1.now c.loop-rest.rest.now c.args.text.now _ c.split_at.ensures.front c.split_at.ensures.back fed.1 in
    rw (p.1, p.2) (λ ne.
    ap (answer (length c.args.text.now))
    (ap (λ (t : List ℕ). stream t c.args.most) (sym whole)
    ∙ c.a_fault_stays.ensures (fed.0 ++ c.split_at.result.0.now) c.split_at.result.1.now c.args.most _ (c.in_err-feed.ensures.err ne c.args.most fed.0 fed.2)))

pub loop-rest-preserved : goal.loop-rest-preserved
loop-rest-preserved c =
    let fed = c.loop-rest.invariant.fed in
    record {
      room = omega (arith, c.loop-rest.invariant.room, c.in_ok-feed.ensures.count, c.split_at.ensures.front_len, c.split_at.ensures.back_len);
      fed = (
        fed.0 ++ c.split_at.result.0.now,
        joined fed.0 c.split_at.result.0.now c.split_at.result.1.now c.loop-rest.rest.now c.args.text.now _ c.split_at.ensures.front c.split_at.ensures.back fed.1,
        c.in_ok-feed.ensures.reads c.args.most fed.0 fed.2,
      );
    }
