-- Draws from a generator (O'Neill, "PCG: a family of simple fast space-efficient statistically good algorithms for random
-- number generation": XSH RR 64/32).
use Rattle.std.specs.Prelude.{ℕ, ◌+◌, ◌/◌, ◌%◌, List, [], ◌∷◌}
use Rattle.rand_core.specs.Pcg32Seed.{pcg32_seed}
use Rattle.rand_pcg.specs.Lcg.{Lcg}
use Rattle.rand_pcg.specs.Pcg.{pcg32, pcg32_of_seed}

-- the generator of a seed
abbrev pub seeded : ℕ → Lcg
seeded seed = pcg32_of_seed (pcg32_seed 16 seed)

-- the next word modulo this number, and the generator after it
abbrev pub draw : ℕ → Lcg → ℕ × Lcg
draw count g = ((pcg32 g).0 % count, (pcg32 g).1)

-- a number in twenty bytes, the highest first
abbrev pub twenty_bytes : ℕ → List ℕ
twenty_bytes n =
    0 ∷ 0 ∷ 0 ∷ 0 ∷ 0 ∷ 0 ∷ 0 ∷ 0 ∷ 0 ∷ 0 ∷ 0 ∷ 0 ∷ 0 ∷ 0 ∷ 0 ∷ n / 4294967296 % 256 ∷ n / 16777216 % 256 ∷ n / 65536 % 256 ∷ n / 256 % 256 ∷ n % 256 ∷ []

-- the id of the commit with this number, from 0
unfoldable pub id : ℕ → List ℕ
id number = twenty_bytes (number + 1)

-- the id of one of the first so many commits
abbrev pub drawn_id : ℕ → Lcg → List ℕ × Lcg
drawn_id count g = (id (draw count g).0, (draw count g).1)
