-- Draws one after another.
use Rattle.std.proofs.Common.{◌≡◌, ℕ, List, ap, ◌∙◌}
use Rattle.std.specs.Prelude.{Option}
use Rattle.rand_pcg.specs.Lcg.{Lcg}
use Rattle.drill_input.specs.Draws.{draw, drawn_id}
use Rattle.drill_input.specs.Advisories.{limit, picks}
use Rattle.drill_input.specs.declared.advisory.Chosen.{Chosen}

-- what is drawn behind the fixed commit, behind the introduced one, and behind the minor version
abbrev with_limit : ℕ → ℕ → ℕ → List ℕ → List ℕ → Lcg → Chosen × Lcg
with_limit size name minor introduced fixed g = (record { name = name; minor = minor; introduced = introduced; fixed = fixed; limit = (limit size g).0 }, (limit size g).1)

abbrev with_fixed : ℕ → ℕ → ℕ → List ℕ → Lcg → Chosen × Lcg
with_fixed size name minor introduced g = with_limit size name minor introduced (drawn_id size g).0 (drawn_id size g).1

abbrev with_introduced : ℕ → ℕ → ℕ → Lcg → Chosen × Lcg
with_introduced size name minor g = with_fixed size name minor (drawn_id size g).0 (drawn_id size g).1

pub picks-are : (size : ℕ) (a b c d e f : Lcg) (name minor : ℕ) (introduced fixed : List ℕ) (last : Option (List ℕ))
    → (name, b) ≡ draw 10 a → (minor, c) ≡ draw 100 b → (introduced, d) ≡ drawn_id size c → (fixed, e) ≡ drawn_id size d → (last, f) ≡ limit size e
    → (record { name = name; minor = minor; introduced = introduced; fixed = fixed; limit = last }, f) ≡ picks size a
unfolding picks
picks-are size a b c d e f name minor introduced fixed last p q r s t =
    ap (λ (x : Option (List ℕ) × Lcg). (record { name = name; minor = minor; introduced = introduced; fixed = fixed; limit = x.0 }, x.1)) t
    ∙ ap (λ (x : List ℕ × Lcg). with_limit size name minor introduced x.0 x.1) s
    ∙ ap (λ (x : List ℕ × Lcg). with_fixed size name minor x.0 x.1) r
    ∙ ap (λ (x : ℕ × Lcg). with_introduced size name x.0 x.1) q
    ∙ ap (λ (x : ℕ × Lcg). with_introduced size x.0 (draw 100 x.1).0 (draw 100 x.1).1) p
