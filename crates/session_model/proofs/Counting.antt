-- Counts that rise, call by call.
use Rattle.std.proofs.Common.{◌≡◌, ℕ, ◌+◌, ◌≤◌, List, [], ◌∷◌, sym, subst, arith, zero, suc, refl, ap, ◌∙◌, min}
use Rattle.std.specs.List.{sum_by}
use Rattle.std.proofs.lemmas.List.Sums.{sum_by-cons}
use Rattle.book_model.specs.Desk.{Caller, saturating_sum}
use Rattle.session_model.specs.declared.sign.Sign.{Sign}
use Rattle.session_model.specs.declared.sign.Sign.TheVariants as signs
use Rattle.session_model.specs.Counts.{Raises, Rises, busy_of, turns_of, looks_of, out_of, OutsAre}
use Rattle.session_model.specs.Runs.{Done, Runs}

raises-then : (n m x y z : ℕ) → Raises n x y → Raises m y z → Raises (n + m) x z
raises-then n m x y z p q = omega (arith, p, q)

raises-less : (n m x y : ℕ) → m ≤ n → Raises n x y → Raises m x y
raises-less n m x y le p = omega (arith, le, p)

pub rises-none : (c : Caller) → Rises 0 0 0 c c
rises-none c = record { busy_rose = omega arith; turns_rose = omega arith; looks_rose = omega arith }

pub rises-then : (a b : Caller) (busy turns looks : ℕ) (c : Caller) (more_busy more_turns more_looks : ℕ) → Rises busy turns looks a b → Rises more_busy more_turns more_looks b c
    → Rises (busy + more_busy) (turns + more_turns) (looks + more_looks) a c
rises-then a b busy turns looks c more_busy more_turns more_looks p q = record {
  busy_rose = raises-then busy more_busy a.busy b.busy c.busy p.busy_rose q.busy_rose;
  turns_rose = raises-then turns more_turns a.turns b.turns c.turns p.turns_rose q.turns_rose;
  looks_rose = raises-then looks more_looks a.last.turned b.last.turned c.last.turned p.looks_rose q.looks_rose;
}

pub rises-less : (a b : Caller) (busy turns looks fewer_busy fewer_turns fewer_looks : ℕ) → fewer_busy ≤ busy → fewer_turns ≤ turns → fewer_looks ≤ looks
    → Rises busy turns looks a b → Rises fewer_busy fewer_turns fewer_looks a b
rises-less a b busy turns looks fewer_busy fewer_turns fewer_looks x y z p = record {
  busy_rose = raises-less busy fewer_busy a.busy b.busy x p.busy_rose;
  turns_rose = raises-less turns fewer_turns a.turns b.turns y p.turns_rose;
  looks_rose = raises-less looks fewer_looks a.last.turned b.last.turned z p.looks_rose;
}

pub run-counts : (old new : Caller) (ds : List Done) → Runs old ds new
    → Rises (sum_by (λ d. busy_of d.sign) ds) (sum_by (λ d. turns_of d.sign) ds) (sum_by (λ d. looks_of d.sign) ds) old new
run-counts old new [] r = subst (λ (c : Caller). Rises 0 0 0 old c) (sym r) (rises-none old)
run-counts old new (d ∷ ds) r =
    let both = rises-then old r.0 (busy_of d.sign) (turns_of d.sign) (looks_of d.sign) new (sum_by (λ (d : Done). busy_of d.sign) ds) (sum_by (λ (d : Done). turns_of d.sign) ds) (sum_by (λ (d : Done). looks_of d.sign) ds)
    r.1.replied.counts (run-counts r.0 new ds r.2) in
    record {
      busy_rose = subst (λ (n : ℕ). Raises n old.busy new.busy) (sym (sum_by-cons (λ (d : Done). busy_of d.sign) d ds)) both.busy_rose;
      turns_rose = subst (λ (n : ℕ). Raises n old.turns new.turns) (sym (sum_by-cons (λ (d : Done). turns_of d.sign) d ds)) both.turns_rose;
      looks_rose = subst (λ (n : ℕ). Raises n old.last.turned new.last.turned) (sym (sum_by-cons (λ (d : Done). looks_of d.sign) d ds)) both.looks_rose;
    }

-- ---- jobs that are told to be out

outs_step : (sign : Sign) (old new : Caller) → old.outs ≤ 18446744073709551615 → OutsAre sign old new → new.outs ≡ min (old.outs + out_of sign) 18446744073709551615
outs_step signs.Plain old new le e = omega (arith, le, e)
outs_step signs.Looked old new le e = omega (arith, le, e)
outs_step (signs.Moved seen) old new le e = omega (arith, le, e)
outs_step (signs.Published snapshot upto) old new le e = omega (arith, le, e)
outs_step (signs.Building zero took) old new le e = let k : new.outs ≡ old.outs = e.1 refl in omega (arith, le, k)
outs_step (signs.Building (suc n) took) old new le e = e.0 (omega arith)

more_outs : (x y z n m : ℕ) → y ≡ min (x + n) 18446744073709551615 → z ≡ min (y + m) 18446744073709551615 → z ≡ min (x + (n + m)) 18446744073709551615
more_outs x y z n m p q = omega (arith, p, q)

pub run-outs : (old new : Caller) (ds : List Done) → old.outs ≤ 18446744073709551615 → Runs old ds new → new.outs ≡ saturating_sum old.outs (sum_by (λ d. out_of d.sign) ds)
run-outs old new [] le r = let e : new.outs ≡ old.outs = ap (λ (c : Caller). c.outs) r in omega (arith, le, e)
run-outs old new (d ∷ ds) le r =
    let first : r.0.outs ≡ min (old.outs + out_of d.sign) 18446744073709551615 = outs_step d.sign old r.0 le r.1.replied.outs in
    let within : r.0.outs ≤ 18446744073709551615 = omega (arith, first) in
    more_outs old.outs r.0.outs new.outs (out_of d.sign) (sum_by (λ (d : Done). out_of d.sign) ds) first (run-outs r.0 new ds within r.2)
    ∙ ap (λ (n : ℕ). min (old.outs + n) 18446744073709551615) (sym (sum_by-cons (λ (d : Done). out_of d.sign) d ds))
