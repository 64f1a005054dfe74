-- Conditions last.
use Rattle.std.proofs.Common.{◌≡◌, ℕ, ◌+◌, ◌≤◌, ◌-◌, List, [], ◌∷◌, ◌++◌, length, take, drop, sym, ap, subst, ◌∙◌, arith}
use mathlib.Core.List.{IsPrefix}
use Rattle.std.specs.Prelude.{fold}
use Rattle.std.proofs.lemmas.List.{append-nil}
use Rattle.std.proofs.Math.Seq.{drop-append_seam, take-append_seam}
use Rattle.osv_prim.specs.declared.oid.CommitRow.{CommitRow}
use Rattle.osv_prim.specs.Graphs.{joined}
use Rattle.osv_prim.specs.Graphs as of_rows
use Rattle.history.specs.declared.past.Past.{Past}
use Rattle.history.specs.Entries.{History, imports, newest, upto_of, snap, entry_weight, weight}
use Rattle.history.specs.Prefixes.{grown, grows, graph, graph_at}
use Rattle.history.specs.Legality.{IsLegal, Extends}
use Rattle.history.specs.Conditions.{IsOfVersion, IsWithin}
use Rattle.history.proofs.Entries.{front-stays, upto-stays, front-length, imports-front, newest-front, weight-append}
use Rattle.history.proofs.Prefixes.{grows-front, grown-at_front}
use Rattle.history.proofs.Legality.{snap-stays-legal}

pub version-lasts : (key : List ℕ) (version : ℕ) (rows : List CommitRow) (a h : List Past) → IsPrefix a h → IsOfVersion key version rows a → IsOfVersion key version rows h
version-lasts key version rows a h f v =
    let same : graph_at version h key ≡ graph_at version a key = ap (λ (xs : List (List CommitRow)). fold joined [] xs) (grown-at_front a h key version f v.there) in
    record {
      there = omega (arith, v.there, grows-front a h key f);
      begins = subst (λ (g : List CommitRow). IsPrefix g rows) (sym same) v.begins;
    }

take-all : {A : Type 0} (xs : List A) → take (length xs) xs ≡ xs
take-all {A = A} xs = ap (λ (ys : List A). take (length xs) ys) (sym (append-nil xs)) ∙ take-append_seam xs []

pub graph_at-now : (p : List Past) (key : List ℕ) → graph_at (grows p key) p key ≡ graph p key
graph_at-now p key = ap (λ (xs : List (List CommitRow)). fold joined [] xs) (take-all (grown p key))

pub version-now : (key : List ℕ) (rows : List CommitRow) (h : List Past) → IsOfVersion key (grows h key) rows h → IsPrefix (graph h key) rows
version-now key rows h v = subst (λ (g : List CommitRow). IsPrefix g rows) (graph_at-now h key) v.begins

pub new_rows : (g rows : List CommitRow) → of_rows.IsLegal rows → IsPrefix g rows → Extends g (drop (length g) rows)
new_rows g rows l f =
    let rest : drop (length g) rows ≡ f.0 = ap (λ (xs : List CommitRow). drop (length g) xs) (sym f.1) ∙ drop-append_seam g f.0 in
    subst (λ (xs : List CommitRow). of_rows.IsLegal (g ++ xs)) (sym rest) (subst (λ (xs : List CommitRow). of_rows.IsLegal xs) (sym f.1) l)

upto-lasts : (a h : History) (s : ℕ) → IsPrefix a h → s ≤ newest a → upto_of h s ≡ upto_of a s
upto-lasts a h s f lt = ap (λ (x : History). upto_of x s) (sym f.1) ∙ upto-stays a f.0 s lt

pub within-lasts : (build upto : ℕ) (a h : History) → IsPrefix a h → IsWithin build upto a → IsWithin build upto h
within-lasts build upto a h f w =
    record {
      positive = w.positive;
      published = omega (arith, w.published, newest-front a h f);
      came = omega (arith, w.came, front-length (imports a) (imports h) (imports-front a h f));
      reaches = let same : upto_of h (build - 1) ≡ upto_of a (build - 1) = upto-lasts a h (build - 1) f w.published in omega (arith, same, w.reaches);
    }

-- what a build stands on stays what it is
pub base-lasts : (build upto : ℕ) (a h : History) → IsPrefix a h → IsWithin build upto a → snap h (build - 1) ≡ snap a (build - 1)
base-lasts build upto a h f w =
    let came : upto_of a (build - 1) ≤ length (imports a) = omega (arith, w.reaches, w.came) in
    ap (λ (k : ℕ). take k (imports h)) (upto-lasts a h (build - 1) f w.published)
    ∙ ap (λ (x : History). take (upto_of a (build - 1)) (imports x)) (sym f.1) ∙ front-stays a f.0 (upto_of a (build - 1)) came

pub snap-lasts : (a h : History) (s : ℕ) → IsPrefix a h → IsLegal a → s ≤ newest a → snap h s ≡ snap a s
snap-lasts a h s f l lt = ap (λ (x : History). snap x s) (sym f.1) ∙ snap-stays-legal a f.0 s l lt

pub first-lasts : (a h : History) (upto : ℕ) → IsPrefix a h → upto ≤ length (imports a) → take upto (imports h) ≡ take upto (imports a)
first-lasts a h upto f le = ap (λ (x : History). take upto (imports x)) (sym f.1) ∙ front-stays a f.0 upto le

pub weight-push : (h : History) (e : Past) → weight (h ++ e ∷ []) ≡ weight h + entry_weight e
weight-push h e = let p : weight (h ++ e ∷ []) ≡ weight h + weight (e ∷ []) = weight-append h (e ∷ []) in omega (arith, p)
