-- Runs of ASCII digits and the numbers that they spell, alone, among identifiers, and in lists (our own).
use Rattle.std.specs.Prelude.{◌≡◌, ℕ, zero, suc, ◌+◌, ◌-◌, ◌*◌, ◌^◌, ◌≤◌, ◌==◌, Bool, List, [], ◌∷◌, length, map, refl, Option, Some, None, if◌then◌else◌}
use Rattle.std.specs.Char.{is_ascii_digit}
use Rattle.std.specs.List.{list_all, slice_split}
use Rattle.std.specs.Cmp.{IsTotalOrder, nat_cmp_total, on_total, then_total, tied_itself}
use Rattle.std.specs.Cmp.Lexicographic.{lists_total, nat_list_cmp_total, slice_cmp}
use Rattle.std.specs.Ordering.{nat_cmp, on, ordering_reverse, ordering_then, then_cmp}
use Rattle.std.specs.declared.cmp.Ordering.{Ordering}
use Rattle.std.proofs.Common.{sym, ap, ◌∙◌, arith}

-- nothing but ASCII digits
abbrev pub all_digits : List ℕ → Bool
all_digits run = list_all is_ascii_digit run

-- the number that a run of digits spells in base ten; an empty run is 0
unfoldable pub number : List ℕ → ℕ
number [] = 0
number (d ∷ ds) = (d - 48) * 10 ^ length ds + number ds

-- a run without the zeros that lead it
unfoldable pub without_zeros : List ℕ → List ℕ
without_zeros [] = []
without_zeros (d ∷ ds) = if d == 48 then without_zeros ds else d ∷ ds

-- the longest front of digits, and what stands behind it
unfoldable pub digit_front : List ℕ → List ℕ
digit_front [] = []
digit_front (c ∷ cs) = if is_ascii_digit c then c ∷ digit_front cs else []

unfoldable pub behind_digits : List ℕ → List ℕ
behind_digits [] = []
behind_digits (c ∷ cs) = if is_ascii_digit c then behind_digits cs else c ∷ cs

abbrev pub is_dot : ℕ → Bool
is_dot c = c == 46

-- What an identifier weighs: digits alone are a number, and the others go by their bytes. The numbers are
-- all below the others, or all above them.
abbrev pub IdentifierWeight : Type 0
IdentifierWeight = ℕ × ℕ × List ℕ

abbrev pub identifier_weight : Bool → List ℕ → IdentifierWeight
identifier_weight numbers_below identifier =
    if all_digits identifier then ((if numbers_below then 0 else 2), number identifier, []) else (1, 0, identifier)

abbrev pub identifier_cmp : IdentifierWeight → IdentifierWeight → Ordering
identifier_cmp = then_cmp (on (λ (w : IdentifierWeight). w.0) nat_cmp) (then_cmp (on (λ (w : IdentifierWeight). w.1) nat_cmp) (on (λ (w : IdentifierWeight). w.2) (slice_cmp nat_cmp)))

-- what the identifiers between the dots of a text weigh
abbrev pub identifier_weights : Bool → List ℕ → List IdentifierWeight
identifier_weights numbers_below text = map (identifier_weight numbers_below) (slice_split is_dot text)

-- the first identifier of a text, and what stands behind its dot
unfoldable pub first_part : List ℕ → List ℕ
first_part [] = []
first_part (c ∷ cs) = if is_dot c then [] else c ∷ first_part cs

unfoldable pub next_part : List ℕ → Option (List ℕ)
next_part [] = None
next_part (c ∷ cs) = if is_dot c then Some cs else next_part cs

-- identifier by identifier, and more of them are above fewer
abbrev pub identifiers_cmp : List IdentifierWeight → List IdentifierWeight → Ordering
identifiers_cmp = slice_cmp identifier_cmp

pub identifiers_total : IsTotalOrder identifiers_cmp
identifiers_total =
    lists_total (then_total (on_total (λ (w : IdentifierWeight). w.0) nat_cmp_total)
    (then_total (on_total (λ (w : IdentifierWeight). w.1) nat_cmp_total) (on_total (λ (w : IdentifierWeight). w.2) nat_list_cmp_total)))

-- a list with d added at its end until it has n members
unfoldable pub filled : {A : Type 0} → ℕ → A → List A → List A
filled zero d xs = xs
filled (suc n) d [] = d ∷ filled n d []
filled (suc n) d (x ∷ xs) = x ∷ filled n d xs

-- two lists place by place, the shorter one filled: the first place at which they differ decides
unfoldable pub filled_cmp : {A : Type 0} → (A → A → Ordering) → A → List A → List A → Ordering
filled_cmp R d xs ys = slice_cmp R (filled (length ys) d xs) (filled (length xs) d ys)

module _ {A : Type 0} {R : A → A → Ordering} (o : IsTotalOrder R) (d : A) where
  -- filling both lists further changes nothing
  pub level : (n : ℕ) (xs ys : List A) → length xs ≤ n → length ys ≤ n → slice_cmp R (filled n d xs) (filled n d ys) ≡ filled_cmp R d xs ys
  unfolding filled filled_cmp
  level zero [] [] p q = refl
  level zero (x ∷ xs) ys p q = absurd (omega arith)
  level zero [] (y ∷ ys) p q = absurd (omega arith)
  level (suc n) [] [] p q = tied_itself (lists_total o) (d ∷ filled n d [])
  level (suc n) [] (y ∷ ys) p q = ap (ordering_then (R d y)) (level n [] ys (omega arith) (omega arith))
  level (suc n) (x ∷ xs) [] p q = ap (ordering_then (R x d)) (level n xs [] (omega arith) (omega arith))
  level (suc n) (x ∷ xs) (y ∷ ys) p q = ap (ordering_then (R x y)) (level n xs ys (omega arith) (omega arith))

  filled_turned : (xs ys : List A) → filled_cmp R d xs ys ≡ ordering_reverse (filled_cmp R d ys xs)
  unfolding filled_cmp
  filled_turned xs ys = (lists_total o).antisymm (filled (length ys) d xs) (filled (length xs) d ys)

  pub filled_total : IsTotalOrder (filled_cmp R d)
  filled_total = record {
    antisymm = filled_turned;
    trans = λ x y z p q.
        let n = length x + length y + length z in
        let lx : length x ≤ n = omega arith in
        let ly : length y ≤ n = omega arith in
        let lz : length z ≤ n = omega arith in
        sym (level n x z lx lz) ∙ (lists_total o).trans (filled n d x) (filled n d y) (filled n d z) (level n x y lx ly ∙ p) (level n y z ly lz ∙ q);
    congr = λ x y z p.
        let n = length x + length y + length z in
        let lx : length x ≤ n = omega arith in
        let ly : length y ≤ n = omega arith in
        let lz : length z ≤ n = omega arith in
        sym (level n x z lx lz) ∙ (lists_total o).congr (filled n d x) (filled n d y) (filled n d z) (level n x y lx ly ∙ p) ∙ level n y z ly lz;
  }
