-- A name in its normal form stays as it is.
use Rattle.std.proofs.Common.{◌≡◌, ℕ, true, false, List, [], ◌∷◌, refl, ap, ◌∙◌, arith, inl, inr}
use Rattle.std.proofs.lemmas.Bool.{cases_Bool}
use Rattle.std.proofs.lemmas.Bool.Decides.{nat_tests}
use Rattle.osv_prim.specs.Packages.{is_pypi, is_separator, lower, normal_name, simple_name, starts_with_separator}

lower-lower : (c : ℕ) → lower (lower c) ≡ lower c
lower-lower c = grind (arith, nat_tests)

is_separator-lower : (c : ℕ) → is_separator c ≡ false → is_separator (lower c) ≡ false
is_separator-lower c e = grind (arith, nat_tests)

-- a name that no separator leads is led by none in its simple form
no_separator_leads : (cs : List ℕ) → starts_with_separator cs ≡ false → starts_with_separator (simple_name cs) ≡ false
no_separator_leads [] e = refl
no_separator_leads (c ∷ cs) e = rw e (is_separator-lower c e)

simple_name-simple_name : (cs : List ℕ) → simple_name (simple_name cs) ≡ simple_name cs
simple_name-simple_name [] = refl
simple_name-simple_name (c ∷ cs) =
    let rest = simple_name-simple_name cs in
    elim (cases_Bool (is_separator c)) [
      | inr other ↦
          let small = is_separator-lower c other in
          rw (other, small, lower-lower c) (ap (λ (x : List ℕ). lower c ∷ x) rest)
      | inl separator ↦
          elim (cases_Bool (starts_with_separator cs)) [
            | inl run ↦ rw (separator, run) rest
            | inr last ↦
                let none = no_separator_leads cs last in
                rw (separator, last, none) (ap (λ (x : List ℕ). 45 ∷ x) rest)
          ]
    ]

pub normal_name-normal_name : (ecosystem name : List ℕ) → normal_name ecosystem (normal_name ecosystem name) ≡ normal_name ecosystem name
normal_name-normal_name ecosystem name = elim (cases_Bool (is_pypi ecosystem)) [
  | inl pypi ↦ rw pypi (simple_name-simple_name name)
  | inr other ↦ rw other refl
]
