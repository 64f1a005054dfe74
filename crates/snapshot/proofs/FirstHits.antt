-- The first hits of a commit, of which only so many are looked at.
use Rattle.std.proofs.Common.{◌≡◌, ℕ, zero, suc, ◌+◌, ◌≤◌, Bool, true, false, cond, ltb, List, [], ◌∷◌, length, map, take, All, Option, Some, None, refl, sym, ap, ◌∙◌, arith}
use Rattle.std.specs.Prelude.{filter, is_some, option_map}
use Rattle.std.proofs.lemmas.Bool.{lt-ltb, ltb-true, ltb-false}
use Rattle.std.proofs.lemmas.List.{take_all, length-take}
use Rattle.std.proofs.lemmas.List.Elements.{All-head, All-tail, All-take}
use Rattle.osv_prim.specs.declared.package.PackageKey.{PackageKey}
use Rattle.osv_record.specs.Advisories.{Advisory}
use Rattle.evaluate.specs.Hits.{Repo}
use Rattle.snapshot.specs.Pages.{cut}
use Rattle.snapshot.specs.Subjects.{is_commit_hit}
use Rattle.snapshot.proofs.Pages.{same_page}

take-first : (n : ℕ) (ys : List Advisory) → take n (take (suc n) ys) ≡ take n ys
take-first zero ys = refl
take-first (suc n) [] = refl
take-first (suc n) (y ∷ ys) = ap (λ (zs : List Advisory). y ∷ zs) (take-first n ys)

-- whether there are more shows in one more
more-first : (size : ℕ) (ys : List Advisory) (b : Bool) → ltb size (length ys) ≡ b → ltb size (length (take (suc size) ys)) ≡ ltb size (length ys)
more-first size ys true is = lt-ltb size (length (take (suc size) ys)) (omega (arith, ltb-true size (length ys) is, length-take (suc size) ys)) ∙ sym is
more-first size ys false is = ap (λ (zs : List Advisory). ltb size (length zs)) (take_all (suc size) ys (omega (arith, ltb-false size (length ys) is)))

cut-first : (size : ℕ) (ys : List Advisory) → cut size (take (suc size) ys) ≡ cut size ys
cut-first size ys =
    same_page (take size (take (suc size) ys)) (take size ys) (ltb size (length (take (suc size) ys))) (ltb size (length ys)) (take-first size ys) (more-first size ys (ltb size (length ys)) refl)

map-take : (at : ℕ → Advisory) (n : ℕ) (is : List ℕ) → map at (take n is) ≡ take n (map at is)
map-take at zero is = refl
map-take at (suc n) [] = refl
map-take at (suc n) (i ∷ is) = ap (λ (zs : List Advisory). at i ∷ zs) (map-take at n is)

module _ (h : Advisory → Bool) (at : ℕ → Advisory) where
  abbrev Passes : ℕ → Type 0
  Passes i = h (at i) ≡ true

  all-pass : (is : List ℕ) → All Passes is → filter h (map at is) ≡ map at is
  all-pass [] all = refl
  all-pass (i ∷ is) all =
      ap (λ (b : Bool). cond b (at i ∷ filter h (map at is)) (filter h (map at is))) (All-head Passes i is all) ∙ ap (λ (zs : List Advisory). at i ∷ zs) (all-pass is (All-tail Passes i is all))

  first-pass : (size : ℕ) (is : List ℕ) → All Passes is → cut size (filter h (map at (take (size + 1) is))) ≡ cut size (filter h (map at is))
  first-pass size is all =
      let one : size + 1 ≡ suc size = omega arith in
      ap (λ (n : ℕ). cut size (filter h (map at (take n is)))) one
      ∙ ap (cut size) (all-pass (take (suc size) is) (All-take Passes (suc size) is all) ∙ map-take at (suc size) is)
      ∙ cut-first size (map at is) ∙ sym (ap (cut size) (all-pass is all))

-- so many of the advisories that affect a commit tell the page
pub looked-at : {X : Type 0} (see : X → PackageKey) (repos : List Repo) (commit : List ℕ) (asked : Option X) (at : ℕ → Advisory) (size count : ℕ) (is : List ℕ) → All (λ i. is_commit_hit repos commit None (at i) ≡ true) is → length is ≤ count
    → cut size (filter (is_commit_hit repos commit (option_map see asked)) (map at (take (cond (is_some asked) count (size + 1)) is))) ≡ cut size (filter (is_commit_hit repos commit (option_map see asked)) (map at is))
looked-at see repos commit None at size count is all few = first-pass (is_commit_hit repos commit None) at size is all
looked-at see repos commit (Some x) at size count is all few = ap (λ (js : List ℕ). cut size (filter (is_commit_hit repos commit (Some (see x))) (map at js))) (take_all count is few)
