-- One draw more.
use Rattle.std.proofs.Common.{◌≡◌, ℕ, suc, ◌+◌, List, [], ◌∷◌, ◌++◌, refl, sym, ap, ◌∙◌, arith}
use Rattle.std.specs.Prelude.{Result, Ok}
use Rattle.rand_pcg.specs.Lcg.{Lcg}
use Rattle.osv_prim.specs.declared.oid.CommitRow.{CommitRow}
use Rattle.osv_record.specs.Advisories.{Advisory}
use Rattle.osv_record.specs.Reading as reading
use Rattle.drill_input.specs.Draws.{drawn_id}
use Rattle.drill_input.specs.Commits.{commit, commits}
use Rattle.drill_input.specs.Advisories.{advisories, advisory_read, if_read, picks, text}
use Rattle.drill_input.specs.Questions.{asked}
use Rattle.drill_input.specs.declared.advisory.Chosen.{Chosen}

next : (n : ℕ) → suc n ≡ n + 1
next n = omega arith

pub commits-step : (n : ℕ) (g before behind : Lcg) (rows now : List CommitRow) (row : CommitRow) → (rows, before) ≡ commits n g → (row, behind) ≡ commit n before → now ≡ rows ++ row ∷ [] → (now, behind) ≡ commits (n + 1) g
commits-step n g before behind rows now row p q r =
    ap (λ (xs : List CommitRow). (xs, behind)) r ∙ ap (λ (x : CommitRow × Lcg). (rows ++ x.0 ∷ [], x.1)) q
    ∙ ap (λ (x : List CommitRow × Lcg). (x.0 ++ (commit n x.1).0 ∷ [], (commit n x.1).1)) p ∙ ap (λ (k : ℕ). commits k g) (next n)

pub asked-step : (size n : ℕ) (g before behind : Lcg) (ids now : List (List ℕ)) (id : List ℕ) → (ids, before) ≡ asked size n g → (id, behind) ≡ drawn_id size before → now ≡ ids ++ id ∷ [] → (now, behind) ≡ asked size (n + 1) g
asked-step size n g before behind ids now id p q r =
    ap (λ (xs : List (List ℕ)). (xs, behind)) r ∙ ap (λ (x : List ℕ × Lcg). (ids ++ x.0 ∷ [], x.1)) q
    ∙ ap (λ (x : List (List ℕ) × Lcg). (x.0 ++ (drawn_id size x.1).0 ∷ [], (drawn_id size x.1).1)) p ∙ ap (λ (k : ℕ). asked size k g) (next n)

pub advisories-step : (size n : ℕ) (g before behind : Lcg) (came now : List Advisory) (advisory : Advisory) → (came, before) ≡ advisories size n g → advisory_read (text n (picks size before).0) ≡ advisory ∷ [] → behind ≡ (picks size before).1
    → now ≡ came ++ advisory ∷ [] → (now, behind) ≡ advisories size (n + 1) g
advisories-step size n g before behind came now advisory p q s r =
    ap (λ (xs : List Advisory). (xs, behind)) (r ∙ ap (λ (xs : List Advisory). came ++ xs) (sym q)) ∙ ap (λ (x : Lcg). (came ++ advisory_read (text n (picks size before).0), x)) s
    ∙ ap (λ (x : List Advisory × Lcg). (x.0 ++ advisory_read (text n (picks size x.1).0), (picks size x.1).1)) p ∙ ap (λ (k : ℕ). advisories size k g) (next n)

-- the text of what was drawn was read
pub read-drawn : (size number : ℕ) (g behind : Lcg) (chosen : Chosen) (bytes : List ℕ) (advisory : Advisory) → (chosen, behind) ≡ picks size g → bytes ≡ text number chosen → reading.advisory bytes ≡ Ok advisory
    → advisory_read (text number (picks size g).0) ≡ advisory ∷ []
read-drawn size number g behind chosen bytes advisory p q r =
    ap (λ (x : Chosen × Lcg). advisory_read (text number x.0)) (sym p) ∙ ap (λ (b : List ℕ). advisory_read b) (sym q) ∙ ap if_read r
