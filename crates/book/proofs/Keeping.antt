-- Snapshots that are kept, and the imports of the first so many entries.
use Rattle.std.proofs.Common.{◌≡◌, ℕ, zero, suc, ◌+◌, ◌<◌, ◌≤◌, List, [], ◌∷◌, ◌++◌, length, take, drop, get_or, refl, sym, ap, subst, ◌∙◌, arith}
use Rattle.std.proofs.lemmas.List.{append-nil, take-append-le, take-append-drop}
use Rattle.std.proofs.Math.Seq.{take-append_seam}
use Rattle.history.specs.declared.past.Past.{Past}
use Rattle.history.specs.declared.past.Past.TheVariants.{Import, Grow, Publish}
use Rattle.history.specs.Entries.{History, imports, uptos, newest, snap}
use Rattle.history.specs.Legality.{IsLegal}
use Rattle.history.proofs.Entries.{imports-append, uptos-append, newest-append}
use Rattle.history.proofs.Legality.{snap-stays-legal}
use Rattle.osv_prim.specs.declared.oid.CommitRow.{CommitRow}
use Rattle.osv_record.specs.Advisories.{Advisory}
use Rattle.book_model.specs.State.{published}
use Rattle.snapshot.specs.declared.snapshot.Snapshot.{Snapshot}
use Rattle.snapshot.specs.Snapshots.{StandsFor}
use Rattle.book.specs.Books.{AreKept}

-- ---- imports and publications at the end

-- an entry that counts as an import
pub record IsImport (e : Past) : Type 0 where
  pub imported : imports (e ∷ []) ≡ e ∷ []
  pub unpublished : uptos (e ∷ []) ≡ []

pub import-is : (by : ℕ) (r : Advisory) → IsImport (Import by r)
import-is by r = record { imported = refl; unpublished = refl }

pub grow-is : (by : ℕ) (key : List ℕ) (rows : List CommitRow) → IsImport (Grow by key rows)
grow-is by key rows = record { imported = refl; unpublished = refl }

pub uptos-import : (h : History) (e : Past) → IsImport e → uptos (h ++ e ∷ []) ≡ uptos h
uptos-import h e c = uptos-append h (e ∷ []) ∙ ap (λ (us : List ℕ). uptos h ++ us) c.unpublished ∙ append-nil (uptos h)

pub newest-import : (h : History) (e : Past) → IsImport e → newest (h ++ e ∷ []) ≡ newest h
newest-import h e c = ap (λ (us : List ℕ). length us) (uptos-import h e c)

pub published-import : (h : History) (e : Past) → IsImport e → published (h ++ e ∷ []) ≡ published h
published-import h e c = ap (λ (us : List ℕ). get_or (0 ∷ us) (length us) 0) (uptos-import h e c)

pub imports-publish : (h : History) (by upto : ℕ) → imports (h ++ Publish by upto ∷ []) ≡ imports h
imports-publish h by upto = imports-append h (Publish by upto ∷ []) ∙ append-nil (imports h)

pub newest-publish : (h : History) (by upto : ℕ) → newest (h ++ Publish by upto ∷ []) ≡ newest h + 1
newest-publish h by upto = newest-append h (Publish by upto ∷ [])

at_end : (us : List ℕ) (u d : ℕ) → get_or (d ∷ (us ++ u ∷ [])) (length (us ++ u ∷ [])) 0 ≡ u
at_end [] u d = refl
at_end (x ∷ us) u d = at_end us u x

pub published-publish : (h : History) (by upto : ℕ) → published (h ++ Publish by upto ∷ []) ≡ upto
published-publish h by upto = ap (λ (us : List ℕ). get_or (0 ∷ us) (length us) 0) (uptos-append h (Publish by upto ∷ [])) ∙ at_end (uptos h) upto 0

-- ---- the first so many entries

pub front-stays : (h more : History) (k : ℕ) → k ≤ length h → length (imports (take k (h ++ more))) ≡ length (imports (take k h))
front-stays h more k le = ap (λ (x : History). length (imports x)) (take-append-le k h more le)

-- where they have so many imports, these are the first so many
pub first_imports : (h : History) (k n : ℕ) → length (imports (take k h)) ≡ n → take n (imports h) ≡ imports (take k h)
first_imports h k n e =
    let whole : imports h ≡ imports (take k h) ++ imports (drop k h) = ap imports (sym (take-append-drop k h)) ∙ imports-append (take k h) (drop k h) in
    ap (λ (m : ℕ). take m (imports h)) (sym e) ∙ ap (λ (xs : List Past). take (length (imports (take k h))) xs) whole ∙ take-append_seam (imports (take k h)) (imports (drop k h))

-- ---- what is kept

pub kept-lasts : (h more : History) (s : ℕ) (xs : List Snapshot) → IsLegal h → s + length xs ≤ newest h + 1 → AreKept h s xs → AreKept (h ++ more) s xs
kept-lasts h more s [] l le a = tt
kept-lasts h more s (x ∷ xs) l le a =
    let same : snap (h ++ more) s ≡ snap h s = snap-stays-legal h more s l (omega (arith, le)) in
    (subst (λ (p : List Past). StandsFor x p) (sym same) a.0, kept-lasts h more (s + 1) xs l (omega (arith, le)) a.1)

pub kept-push : (h : History) (s n : ℕ) (xs : List Snapshot) (x : Snapshot) → s + length xs ≡ n → AreKept h s xs → StandsFor x (snap h n) → AreKept h s (xs ++ x ∷ [])
kept-push h s n [] x e a st = let same : n ≡ s = omega (arith, e) in (subst (λ (k : ℕ). StandsFor x (snap h k)) same st, tt)
kept-push h s n (y ∷ xs) x e a st = (a.0, kept-push h (s + 1) n xs x (omega (arith, e)) a.1 st)

pub kept-at : (h : History) (s i : ℕ) (xs : List Snapshot) (d : Snapshot) → i < length xs → AreKept h s xs → StandsFor (get_or xs i d) (snap h (s + i))
kept-at h s i [] d lt a = absurd (omega arith)
kept-at h s zero (x ∷ xs) d lt a = let same : s ≡ s + 0 = omega arith in subst (λ (k : ℕ). StandsFor x (snap h k)) same a.0
kept-at h s (suc i) (x ∷ xs) d lt a = let same : s + 1 + i ≡ s + suc i = omega arith in subst (λ (k : ℕ). StandsFor (get_or xs i d) (snap h k)) same (kept-at h (s + 1) i xs d (omega arith) a.1)

pub kept-rest : (h : History) (s : ℕ) (xs : List Snapshot) → AreKept h s xs → AreKept h (s + 1) (drop 1 xs)
kept-rest h s [] a = tt
kept-rest h s (x ∷ xs) a = a.1
