use Rattle.std.proofs.Common.{◌≡◌, Bool, true, false, cond, ℕ, List, Bor, Option, Some, None, length, drop, refl}
use Rattle.std.specs.Prelude.{MatchOption, option_map}
use Rattle.fast_export.specs.Lines.{behind}
use Rattle.fast_export.proofs.line.behind.Goals as goal

seen : (P : Bor (List ℕ) → Type 0) (r : Option (Bor (List ℕ))) (b : Bool) (rest : List ℕ) → MatchOption r (b ≡ false) (λ x. (b ≡ true) × (x.now ≡ rest) × P x)
    → option_map (λ t. t.now) r ≡ cond b (Some rest) None
seen P None b rest h = rw h refl
seen P (Some x) b rest h = rw (h.0, h.1) refl

pub returns : goal.returns
unfolding behind
returns c = seen _ c.strip_prefix.result _ (drop (length c.args.word.now) c.args.line.now) c.strip_prefix.ensures.cases
