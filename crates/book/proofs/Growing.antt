-- Rows that come to the graph of a repository.
use Rattle.std.proofs.Common.{◌≡◌, ℕ, zero, suc, ◌+◌, ◌-◌, ◌<◌, ◌≤◌, Bool, true, false, cond, List, [], ◌∷◌, ◌++◌, length, fold, take, drop, get_or, sym, ap, subst, ◌∙◌, append_assoc, arith, length-append}
use Rattle.std.specs.Prelude.{sum_by}
use Rattle.std.specs.Str.{bytes_eq}
use mathlib.Core.List.{IsPrefix}
use Rattle.std.proofs.lemmas.List.{append-nil}
use Rattle.std.proofs.Math.Seq.{drop-append_seam}
use Rattle.std.proofs.lemmas.List.Sums.{sum_by-append}
use Rattle.osv_prim.specs.declared.oid.CommitRow.{CommitRow}
use Rattle.osv_prim.specs.Graphs.{has, with_row, joined}
use Rattle.osv_prim.specs.Graphs as of_rows
use Rattle.commit_graph.specs.Linked.{weight_of}
use Rattle.history.specs.declared.past.Past.{Past}
use Rattle.history.specs.declared.past.Past.TheVariants.{Import, Grow, Publish}
use Rattle.history.specs.Entries.{History, imports, weight, entry_weight}
use Rattle.history.specs.Prefixes.{grown, grows, graph}
use Rattle.history.specs.Legality.{Extends}
use Rattle.history.proofs.Entries.{imports-append}
use Rattle.history.proofs.Prefixes.{graph-imports}
use Rattle.history.proofs.Legality.{graph-extended}
use Rattle.history.proofs.Conditions.{new_rows}
use Rattle.book.specs.declared.entry.Entry.{Entry}
use Rattle.book.specs.Entries.{past, history_of, IsWhole, AreWhole}

-- ---- weights

pub weight_of-append : (a b : List CommitRow) → weight_of (a ++ b) ≡ weight_of a + weight_of b
weight_of-append a b =
    let rows : length (a ++ b) ≡ length a + length b = length-append a b in
    let parents : sum_by (λ (r : CommitRow). length r.parents) (a ++ b) ≡ sum_by (λ (r : CommitRow). length r.parents) a + sum_by (λ (r : CommitRow). length r.parents) b =
    sum_by-append (λ (r : CommitRow). length r.parents) a b in
    omega (arith, rows, parents)

weight_step : (b : Bool) (g : List CommitRow) (r : CommitRow) → weight_of (cond b g (g ++ r ∷ [])) ≤ weight_of g + weight_of (r ∷ [])
weight_step true g r = omega arith
weight_step false g r = let e = weight_of-append g (r ∷ []) in omega (arith, e)

weight_joined : (rows g : List CommitRow) → weight_of (joined g rows) ≤ weight_of g + weight_of rows
weight_joined [] g = omega arith
weight_joined (r ∷ rows) g =
    let one = weight_step (has g r.oid) g r in
    let rest : weight_of (joined (with_row g r) rows) ≤ weight_of (with_row g r) + weight_of rows = weight_joined rows (with_row g r) in
    let both : weight_of (r ∷ rows) ≡ weight_of (r ∷ []) + weight_of rows = weight_of-append (r ∷ []) rows in
    omega (arith, one, rest, both)

weight_grown_step : (b : Bool) (g rows : List CommitRow) (more : List (List CommitRow)) (n m : ℕ) → weight_of rows ≤ m
    → ((x : List CommitRow) → weight_of (fold joined x more) ≤ weight_of x + n) → weight_of (fold joined g (cond b (rows ∷ more) more)) ≤ weight_of g + (m + n)
weight_grown_step true g rows more n m le rest =
    let here : weight_of (fold joined (joined g rows) more) ≤ weight_of (joined g rows) + n = rest (joined g rows) in
    let one : weight_of (joined g rows) ≤ weight_of g + weight_of rows = weight_joined rows g in
    omega (arith, here, one, le)
weight_grown_step false g rows more n m le rest = let here : weight_of (fold joined g more) ≤ weight_of g + n = rest g in omega (arith, here)

weight_grown : (h : History) (key : List ℕ) (g : List CommitRow) → weight_of (fold joined g (grown h key)) ≤ weight_of g + weight h
weight_grown [] key g = omega arith
weight_grown (Import by r ∷ h) key g = let e = weight_grown h key g in omega (arith, e)
weight_grown (Grow by u rows ∷ h) key g =
    weight_grown_step (bytes_eq u key) g rows (grown h key) (weight h) (entry_weight (Grow by u rows)) (omega arith) (weight_grown h key)
weight_grown (Publish by upto ∷ h) key g = let e = weight_grown h key g in omega (arith, e)

-- no graph weighs more than the history
pub graph-weight : (h : History) (key : List ℕ) → weight_of (graph h key) ≤ weight h
graph-weight h key = let e = weight_grown h key [] in omega (arith, e)

-- the rows beyond those of a graph weigh the rest
pub beyond-weight : (g rows : List CommitRow) → IsPrefix g rows → weight_of (drop (length g) rows) ≡ weight_of rows - weight_of g
beyond-weight g rows p =
    let rest : drop (length g) rows ≡ p.0 = ap (λ (xs : List CommitRow). drop (length g) xs) (sym p.1) ∙ drop-append_seam g p.0 in
    let whole : weight_of rows ≡ weight_of g + weight_of p.0 = ap (λ (xs : List CommitRow). weight_of xs) (sym p.1) ∙ weight_of-append g p.0 in
    let same : weight_of (drop (length g) rows) ≡ weight_of p.0 = ap (λ (xs : List CommitRow). weight_of xs) rest in
    omega (arith, whole, same)

-- ---- how many Grows

few_step : (b : Bool) (rows : List CommitRow) (more : List (List CommitRow)) (n : ℕ) → length more ≤ n → length (cond b (rows ∷ more) more) ≤ suc n
few_step true rows more n le = omega (arith, le)
few_step false rows more n le = omega (arith, le)

pub few-grows : (h : History) (key : List ℕ) → grows h key ≤ length (imports h)
few-grows [] key = omega arith
few-grows (Import by r ∷ h) key = let e = few-grows h key in omega (arith, e)
few-grows (Grow by u rows ∷ h) key = few_step (bytes_eq u key) rows (grown h key) (length (imports h)) (few-grows h key)
few-grows (Publish by upto ∷ h) key = few-grows h key

-- ---- graphs

-- the rows of a graph that goes on from that of a repository, after its new ones came
pub grown-whole : (h : History) (by : ℕ) (key : List ℕ) (rows : List CommitRow) → of_rows.IsLegal rows → IsPrefix (graph h key) rows
    → graph (h ++ Grow by key (drop (length (graph h key)) rows) ∷ []) key ≡ rows
grown-whole h by key rows legal p =
    let new : Extends (graph h key) (drop (length (graph h key)) rows) = new_rows (graph h key) rows legal p in
    let rest : drop (length (graph h key)) rows ≡ p.0 = ap (λ (xs : List CommitRow). drop (length (graph h key)) xs) (sym p.1) ∙ drop-append_seam (graph h key) p.0 in
    graph-extended h by key (drop (length (graph h key)) rows) new ∙ ap (λ (xs : List CommitRow). graph h key ++ xs) rest ∙ p.1

-- among imports alone
pub graph-of_imports : (h : History) (by : ℕ) (u : List ℕ) (rows : List CommitRow) (key : List ℕ) → graph (imports h ++ Grow by u rows ∷ []) key ≡ graph (h ++ Grow by u rows ∷ []) key
graph-of_imports h by u rows key =
    ap (λ (p : List Past). graph p key) (sym (imports-append h (Grow by u rows ∷ []))) ∙ graph-imports (h ++ Grow by u rows ∷ []) key

-- ---- what entries share

pub whole-push : (h : History) (es : List Entry) (e : Entry) → AreWhole h es → IsWhole (h ++ history_of es) e → AreWhole h (es ++ e ∷ [])
whole-push h [] e a w = (subst (λ (x : History). IsWhole x e) (append-nil h) w, tt)
whole-push h (x ∷ es) e a w = (a.0, whole-push (h ++ past x ∷ []) es e a.1 (subst (λ (y : History). IsWhole y e) (sym (append_assoc h (past x ∷ []) (history_of es))) w))

-- at one of them, and from one of them on
pub whole-at : (h : History) (es : List Entry) (i : ℕ) (d : Entry) → i < length es → AreWhole h es → IsWhole (h ++ history_of (take i es)) (get_or es i d)
whole-at h [] i d lt a = absurd (omega arith)
whole-at h (x ∷ es) zero d lt a = subst (λ (y : History). IsWhole y x) (sym (append-nil h)) a.0
whole-at h (x ∷ es) (suc i) d lt a =
    subst (λ (y : History). IsWhole y (get_or es i d)) (append_assoc h (past x ∷ []) (history_of (take i es))) (whole-at (h ++ past x ∷ []) es i d (omega arith) a.1)

pub whole-drop : (h : History) (es : List Entry) (n : ℕ) → AreWhole h es → AreWhole (h ++ history_of (take n es)) (drop n es)
whole-drop h es zero a = subst (λ (y : History). AreWhole y es) (sym (append-nil h)) a
whole-drop h [] (suc n) a = tt
whole-drop h (x ∷ es) (suc n) a =
    subst (λ (y : History). AreWhole y (drop n es)) (append_assoc h (past x ∷ []) (history_of (take n es))) (whole-drop (h ++ past x ∷ []) es n a.1)
