-- A fraction, digit by digit.
use Rattle.std.proofs.Common.{◌≡◌, ℕ, zero, suc, ◌+◌, ◌-◌, ◌*◌, ◌/◌, ◌^◌, ◌<◌, ◌≤◌, List, [], ◌∷◌, length, sym, ap, ◌∙◌, arith}
use Rattle.std.proofs.Math.Nat.{pow-succ'}
use Rattle.std.proofs.lemmas.Nat.{pow-add}
use Rattle.osv_prim.specs.Digits.{number}

-- The first digit counts this many nanoseconds, and each further one a tenth of the one before it.
abbrev pub tenths : ℕ → List ℕ → ℕ
tenths unit [] = 0
tenths unit (d ∷ ds) = (d - 48) * unit + tenths (unit / 10) ds

-- ten times n, in tenths
tenth_of : (n : ℕ) → 10 * n / 10 ≡ n
tenth_of n = omega arith

spread : (d p q r : ℕ) → d * (p * q) + r * q ≡ (d * p + r) * q
spread d p q r = omega arith

-- the digits as a number, with zeros behind them
tenths_are : (k : ℕ) (ds : List ℕ) → length ds ≤ suc k → tenths (10 ^ k) ds ≡ number ds * 10 ^ (suc k - length ds)
unfolding number
tenths_are k [] le = omega arith
tenths_are zero (d ∷ []) le = omega arith
tenths_are zero (d ∷ e ∷ ds) le = absurd (omega arith)
tenths_are (suc k) (d ∷ ds) le =
    let fits : length ds ≤ suc k = omega arith in
    let whole : suc k ≡ length ds + (suc k - length ds) = omega arith in
    let behind : suc (suc k) - length (d ∷ ds) ≡ suc k - length ds = omega arith in
    let unit : 10 ^ suc k ≡ 10 ^ length ds * 10 ^ (suc k - length ds) = ap (λ (n : ℕ). 10 ^ n) whole ∙ pow-add 10 (length ds) (suc k - length ds) in
    let rest : tenths (10 ^ suc k / 10) ds ≡ number ds * 10 ^ (suc k - length ds) =
    ap (λ (n : ℕ). tenths (n / 10) ds) (pow-succ' 10 k) ∙ ap (λ (n : ℕ). tenths n ds) (tenth_of (10 ^ k)) ∙ tenths_are k ds fits in
    ap (λ (n : ℕ). (d - 48) * 10 ^ suc k + n) rest
    ∙ ap (λ (n : ℕ). (d - 48) * n + number ds * 10 ^ (suc k - length ds)) unit
    ∙ spread (d - 48) (10 ^ length ds) (10 ^ (suc k - length ds)) (number ds)
    ∙ ap (λ (n : ℕ). ((d - 48) * 10 ^ length ds + number ds) * 10 ^ n) (sym behind)

pub nanos_are : (nanos unit : ℕ) (rest digits : List ℕ) → nanos + tenths unit rest ≡ tenths 100000000 digits → length rest < 1 → length digits ≤ 9
    → nanos ≡ number digits * 10 ^ (9 - length digits)
nanos_are nanos unit [] digits so_far none le = let all = tenths_are 8 digits le in omega (arith, so_far, all)
nanos_are nanos unit (d ∷ ds) digits so_far none le = absurd (omega arith)
