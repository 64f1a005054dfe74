-- Advisories that are noted under texts that have numbers.
use Rattle.std.proofs.Common.{◌≡◌, ℕ, ◌<◌, ◌≤◌, inl, inr, Bool, true, false, ◌&&◌, ◌||◌, eqb, List, [], ◌∷◌, ◌++◌, get_or, Option, Some, None, refl, sym, ap, ◌∙◌, arith}
use Rattle.std.specs.List.{list_any}
use Rattle.std.specs.Str.{bytes_eq}
use Rattle.std.proofs.lemmas.Bool.{ne_eqb}
use Rattle.std.proofs.lemmas.List.Elements.{All-push}
use Rattle.std.proofs.lemmas.List.Folds.{list_any_none, list_any-append}
use Rattle.package_index.specs.Numbers.{number_of, IsKept}
use Rattle.package_index.specs.Noted.{is_entry, noted_at, AreGiven}
use Rattle.package_index.proofs.Numbering.{same-number, no-number, turned}

and_no : (a : Bool) → (a && false) ≡ false
and_no true = refl
and_no false = refl

or_no : (a : Bool) → (a || false) ≡ a
or_no true = refl
or_no false = refl

abbrev pub Entries : Type 0
Entries = List ((ℕ × ℕ) × ℕ)

module _ (entries : Entries) (names ecosystems : ℕ) (given : AreGiven names ecosystems entries) (i : ℕ) where
  new-name : (ecosystem : Option ℕ) → noted_at entries (Some names) ecosystem i ≡ false
  new-name None = refl
  new-name (Some m) =
      list_any_none (is_entry names m i) entries
      (λ j d lt. let e = get_or entries j d in ap (λ (b : Bool). (b && eqb e.0.1 m) && eqb e.1 i) (ne_eqb e.0.0 names (λ h. omega (arith, (given j d lt).0, h))))

  new-ecosystem : (name : Option ℕ) → noted_at entries name (Some ecosystems) i ≡ false
  new-ecosystem None = refl
  new-ecosystem (Some n) =
      list_any_none (is_entry n ecosystems i) entries
      (λ j d lt. let e = get_or entries j d in
      ap (λ (b : Bool). (eqb e.0.0 n && b) && eqb e.1 i) (ne_eqb e.0.1 ecosystems (λ h. omega (arith, (given j d lt).1, h))) ∙ ap (λ (b : Bool). b && eqb e.1 i) (and_no (eqb e.0.0 n)))

  no-ecosystem : (name : Option ℕ) → noted_at entries name None i ≡ false
  no-ecosystem None = refl
  no-ecosystem (Some n) = refl

  -- more texts have numbers
  pub noted-kept : (old_name new_name old_ecosystem new_ecosystem : Option ℕ) → IsKept names old_name new_name → IsKept ecosystems old_ecosystem new_ecosystem
      → noted_at entries new_name new_ecosystem i ≡ noted_at entries old_name old_ecosystem i
  noted-kept on nn oe ne (inl name) (inl ecosystem) = ap (λ (o : Option ℕ). noted_at entries o ne i) name ∙ ap (λ (o : Option ℕ). noted_at entries on o i) ecosystem
  noted-kept on nn oe ne (inr name) ecosystem =
      ap (λ (o : Option ℕ). noted_at entries o ne i) name.1 ∙ new-name ne ∙ sym (ap (λ (o : Option ℕ). noted_at entries o oe i) name.0)
  noted-kept on nn oe ne (inl name) (inr ecosystem) =
      ap (λ (o : Option ℕ). noted_at entries o ne i) name ∙ ap (λ (o : Option ℕ). noted_at entries on o i) ecosystem.1 ∙ new-ecosystem on
      ∙ sym (ap (λ (o : Option ℕ). noted_at entries on o i) ecosystem.0 ∙ no-ecosystem on)

-- one entry more
pub noted-push : (entries : Entries) (names ecosystems : List (List ℕ)) (name ecosystem : List ℕ) (n m index : ℕ) → number_of names name ≡ Some n → number_of ecosystems ecosystem ≡ Some m
    → (e t : List ℕ) (i : ℕ) → noted_at (entries ++ ((n, m), index) ∷ []) (number_of names t) (number_of ecosystems e) i
    ≡ (noted_at entries (number_of names t) (number_of ecosystems e) i || ((bytes_eq name t && bytes_eq e ecosystem) && eqb index i))
noted-push entries names ecosystems name ecosystem n m index name_is ecosystem_is e t i = by (number_of names t) (number_of ecosystems e) refl refl
  where
    by : (a b : Option ℕ) → number_of names t ≡ a → number_of ecosystems e ≡ b → noted_at (entries ++ ((n, m), index) ∷ []) a b i ≡ (noted_at entries a b i || ((bytes_eq name t && bytes_eq e ecosystem) && eqb index i))
    by None b t_is e_is = sym (ap (λ (x : Bool). (x && bytes_eq e ecosystem) && eqb index i) (turned name t ∙ no-number names t name n t_is name_is))
    by (Some x) None t_is e_is =
        sym (ap (λ (y : Bool). (bytes_eq name t && y) && eqb index i) (no-number ecosystems e ecosystem m e_is ecosystem_is) ∙ ap (λ (y : Bool). y && eqb index i) (and_no (bytes_eq name t)))
    by (Some x) (Some y) t_is e_is =
        list_any-append (is_entry x y i) entries (((n, m), index) ∷ [])
        ∙ ap (λ (b : Bool). list_any (is_entry x y i) entries || b)
        (or_no ((eqb n x && eqb m y) && eqb index i) ∙ ap (λ (b : Bool). (b && eqb m y) && eqb index i) (same-number names t name x n t_is name_is ∙ turned t name)
        ∙ ap (λ (b : Bool). (bytes_eq name t && b) && eqb index i) (same-number ecosystems e ecosystem y m e_is ecosystem_is))

pub given-more : (entries : Entries) (names ecosystems more_names more_ecosystems n m index : ℕ) → AreGiven names ecosystems entries → names ≤ more_names → ecosystems ≤ more_ecosystems
    → n < more_names → m < more_ecosystems → AreGiven more_names more_ecosystems (entries ++ ((n, m), index) ∷ [])
given-more entries names ecosystems more_names more_ecosystems n m index given name_le ecosystem_le n_lt m_lt =
    All-push (λ (e : (ℕ × ℕ) × ℕ). (e.0.0 < more_names) × (e.0.1 < more_ecosystems)) entries ((n, m), index)
    (λ j d lt. (omega (arith, (given j d lt).0), omega (arith, (given j d lt).1))) (n_lt, m_lt)
