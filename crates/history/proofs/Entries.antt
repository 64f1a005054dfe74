-- How a history goes on.
use Rattle.std.proofs.Common.{◌≡◌, ℕ, zero, suc, ◌+◌, ◌*◌, ◌<◌, ◌≤◌, Bool, true, false, cond, List, [], ◌∷◌, ◌++◌, length, map, take, drop, get_or, refl, sym, ap, subst, ◌∙◌, append_assoc, arith, length-append, add-zero}
use mathlib.Core.List.{IsPrefix}
use Rattle.std.specs.Prelude.{nat_eq, ◌↔◌}
use Rattle.std.proofs.lemmas.List.{append-nil, take-append-le}
use Rattle.history.specs.declared.past.Past.{Past}
use Rattle.history.specs.declared.past.Past.TheVariants.{Import, Grow, Publish}
use Rattle.history.specs.Entries.{History, caller, imports, uptos, newest, upto_of, snap, IsKept, IsGone, oldest_kept, weight, own_from, own, by_caller, added}
use Rattle.history.specs.Legality.{Marks, marked, marks_from, ArePublishedFrom, start, marks}

-- ---- one list after another

pub imports-append : (a b : History) → imports (a ++ b) ≡ imports a ++ imports b
imports-append [] b = refl
imports-append (Import by r ∷ h) b = ap (λ (xs : List Past). Import by r ∷ xs) (imports-append h b)
imports-append (Grow by key rows ∷ h) b = ap (λ (xs : List Past). Grow by key rows ∷ xs) (imports-append h b)
imports-append (Publish by upto ∷ h) b = imports-append h b

pub imports-imports : (h : History) → imports (imports h) ≡ imports h
imports-imports [] = refl
imports-imports (Import by r ∷ h) = ap (λ (xs : List Past). Import by r ∷ xs) (imports-imports h)
imports-imports (Grow by key rows ∷ h) = ap (λ (xs : List Past). Grow by key rows ∷ xs) (imports-imports h)
imports-imports (Publish by upto ∷ h) = imports-imports h

pub uptos-append : (a b : History) → uptos (a ++ b) ≡ uptos a ++ uptos b
uptos-append [] b = refl
uptos-append (Import by r ∷ h) b = uptos-append h b
uptos-append (Grow by key rows ∷ h) b = uptos-append h b
uptos-append (Publish by upto ∷ h) b = ap (λ (xs : List ℕ). upto ∷ xs) (uptos-append h b)

pub newest-append : (a b : History) → newest (a ++ b) ≡ newest a + newest b
newest-append a b = ap (λ (us : List ℕ). length us) (uptos-append a b) ∙ length-append (uptos a) (uptos b)

pub weight-append : (a b : History) → weight (a ++ b) ≡ weight a + weight b
weight-append [] b = omega arith
weight-append (e ∷ h) b = let p : weight (h ++ b) ≡ weight h + weight b = weight-append h b in omega (arith, p)

pub marks_from-append : (m : Marks) (a b : History) → marks_from m (a ++ b) ≡ marks_from (marks_from m a) b
marks_from-append m [] b = refl
marks_from-append m (e ∷ h) b = marks_from-append (marked m e) h b

pub published-append : (m : Marks) (a b : History) → ArePublishedFrom m a → ArePublishedFrom (marks_from m a) b → ArePublishedFrom m (a ++ b)
published-append m [] b p q = q
published-append m (e ∷ h) b p q = (p.0, published-append (marked m e) h b p.1 q)

pub published-front : (m : Marks) (a b : History) → ArePublishedFrom m (a ++ b) → ArePublishedFrom m a
published-front m [] b p = tt
published-front m (e ∷ h) b p = (p.0, published-front (marked m e) h b p.1)

pub published-rest : (m : Marks) (a b : History) → ArePublishedFrom m (a ++ b) → ArePublishedFrom (marks_from m a) b
published-rest m [] b p = p
published-rest m (e ∷ h) b p = published-rest (marked m e) h b p.1

-- ---- marks

pub count_from : (m : Marks) (h : History) → (marks_from m h).count ≡ m.count + length (imports h)
count_from m [] = omega arith
count_from m (Import by r ∷ h) = let e = count_from (marked m (Import by r)) h in omega (arith, e)
count_from m (Grow by key rows ∷ h) = let e = count_from (marked m (Grow by key rows)) h in omega (arith, e)
count_from m (Publish by upto ∷ h) = count_from (marked m (Publish by upto)) h

pub last_from : (m : Marks) (h : History) → (marks_from m h).last ≡ get_or (m.last ∷ uptos h) (length (uptos h)) 0
last_from m [] = refl
last_from m (Import by r ∷ h) = last_from (marked m (Import by r)) h
last_from m (Grow by key rows ∷ h) = last_from (marked m (Grow by key rows)) h
last_from m (Publish by upto ∷ h) = last_from (marked m (Publish by upto)) h

-- the marks only grow
pub record Grows (m n : Marks) : Type 0 where
  pub count : m.count ≤ n.count
  pub last : m.last ≤ n.last
  pub before : m.before ≤ n.before
  pub order : n.before ≤ n.count
  pub within : n.last ≤ n.count

pub record InOrder (m : Marks) : Type 0 where
  pub order : m.before ≤ m.count
  pub within : m.last ≤ m.count

pub grows_from : (m : Marks) (h : History) → InOrder m → ArePublishedFrom m h → Grows m (marks_from m h)
grows_from m [] i p = record { count = omega arith; last = omega arith; before = omega arith; order = i.order; within = i.within }
grows_from m (Import by r ∷ h) i p =
    let g = grows_from (marked m (Import by r)) h (record { order = omega (arith, i.order); within = omega (arith, i.within) }) p.1 in
    record { count = omega (arith, g.count); last = g.last; before = g.before; order = g.order; within = g.within }
grows_from m (Grow by key rows ∷ h) i p =
    let g = grows_from (marked m (Grow by key rows)) h (record { order = omega (arith, i.order); within = omega (arith, i.within) }) p.1 in
    record { count = omega (arith, g.count); last = g.last; before = g.before; order = g.order; within = g.within }
grows_from m (Publish by upto ∷ h) i p =
    let g = grows_from (marked m (Publish by upto)) h (record { order = omega arith; within = p.0.1 }) p.1 in
    record { count = g.count; last = omega (arith, g.last, p.0.0); before = omega (arith, g.before, i.order); order = g.order; within = g.within }

pub start_in_order : InOrder start
start_in_order = record { order = omega arith; within = omega arith }

pub marks_grow : (a b : History) → ArePublishedFrom start (a ++ b) → Grows (marks a) (marks (a ++ b))
marks_grow a b p =
    let g = grows_from start a start_in_order (published-front start a b p) in
    subst (λ (n : Marks). Grows (marks a) n) (sym (marks_from-append start a b))
    (grows_from (marks a) b (record { order = g.order; within = g.within }) (published-rest start a b p))

-- each publication is of imports that came
pub upto_came : (m : Marks) (h : History) (s : ℕ) → InOrder m → ArePublishedFrom m h → s ≤ length (uptos h) → get_or (m.last ∷ uptos h) s 0 ≤ (marks_from m h).count
upto_came m [] zero i p lt = i.within
upto_came m [] (suc s) i p lt = absurd (omega arith)
upto_came m (Import by r ∷ h) s i p lt = upto_came (marked m (Import by r)) h s (record { order = omega (arith, i.order); within = omega (arith, i.within) }) p.1 lt
upto_came m (Grow by key rows ∷ h) s i p lt = upto_came (marked m (Grow by key rows)) h s (record { order = omega (arith, i.order); within = omega (arith, i.within) }) p.1 lt
upto_came m (Publish by upto ∷ h) zero i p lt =
    let g = grows_from (marked m (Publish by upto)) h (record { order = omega arith; within = p.0.1 }) p.1 in
    omega (arith, g.count, i.within)
upto_came m (Publish by upto ∷ h) (suc s) i p lt = upto_came (marked m (Publish by upto)) h s (record { order = omega arith; within = p.0.1 }) p.1 (omega arith)

get_or-append : (xs ys : List ℕ) (i : ℕ) → i < length xs → get_or (xs ++ ys) i 0 ≡ get_or xs i 0
get_or-append [] ys i lt = absurd (omega arith)
get_or-append (x ∷ xs) ys zero lt = refl
get_or-append (x ∷ xs) ys (suc i) lt = get_or-append xs ys i (omega arith)

-- ---- snapshots

pub upto-stays : (a b : History) (s : ℕ) → s ≤ newest a → upto_of (a ++ b) s ≡ upto_of a s
upto-stays a b s lt = ap (λ (us : List ℕ). get_or (0 ∷ us) s 0) (uptos-append a b) ∙ get_or-append (0 ∷ uptos a) (uptos b) s (omega arith)

-- a snapshot stays what it is
pub snap-stays : (a b : History) (s : ℕ) → ArePublishedFrom start a → s ≤ newest a → snap (a ++ b) s ≡ snap a s
snap-stays a b s legal lt =
    let came : get_or (0 ∷ uptos a) s 0 ≤ length (imports a) = omega (arith, upto_came start a s start_in_order legal lt, count_from start a) in
    ap (λ (k : ℕ). take k (imports (a ++ b))) (upto-stays a b s lt) ∙ ap (λ (rs : List Past). take (get_or (0 ∷ uptos a) s 0) rs) (imports-append a b)
    ∙ take-append-le (get_or (0 ∷ uptos a) s 0) (imports a) (imports b) came

pub front-stays : (a b : History) (k : ℕ) → k ≤ length (imports a) → take k (imports (a ++ b)) ≡ take k (imports a)
front-stays a b k le = ap (take k) (imports-append a b) ∙ take-append-le k (imports a) (imports b) le

pub gone-stays : (keep : ℕ) (a b : History) (s : ℕ) → IsGone keep a s → IsGone keep (a ++ b) s
gone-stays keep a b s g = let e = newest-append a b in (omega (arith, e, g.0), omega (arith, e, g.1))

pub kept-exactly : (keep : ℕ) (h : History) (s : ℕ) → IsKept keep h s → (oldest_kept keep h ≤ s) × (s ≤ newest h)
kept-exactly keep h s k = (omega (arith, k.1), k.0)

pub kept-between : (keep : ℕ) (h : History) (s : ℕ) → (oldest_kept keep h ≤ s) × (s ≤ newest h) → IsKept keep h s
kept-between keep h s k = (k.1, omega (arith, k.0))

-- ---- weight

pub count-le-weight : (h : History) → 64 * length (imports h) ≤ weight h
count-le-weight [] = omega arith
count-le-weight (Import by r ∷ h) = let e = count-le-weight h in omega (arith, e)
count-le-weight (Grow by key rows ∷ h) = let e = count-le-weight h in omega (arith, e)
count-le-weight (Publish by upto ∷ h) = let e = count-le-weight h in omega (arith, e)

-- each publication is of more imports than the one before
pub newest-le-last : (m : Marks) (h : History) → ArePublishedFrom m h → length (uptos h) + m.last ≤ (marks_from m h).last
newest-le-last m [] p = omega arith
newest-le-last m (Import by r ∷ h) p = newest-le-last (marked m (Import by r)) h p.1
newest-le-last m (Grow by key rows ∷ h) p = newest-le-last (marked m (Grow by key rows)) h p.1
newest-le-last m (Publish by upto ∷ h) p = let e = newest-le-last (marked m (Publish by upto)) h p.1 in omega (arith, e, p.0.0)

pub few : (h : History) → ArePublishedFrom start h → newest h ≤ length (imports h)
few h legal =
    let a = newest-le-last start h legal in
    let g = grows_from start h start_in_order legal in
    omega (arith, a, g.within, count_from start h)

-- ---- a caller's entries

own_step : (b : Bool) (x : ℕ × Past) (xs ys : List (ℕ × Past)) → cond b (x ∷ (xs ++ ys)) (xs ++ ys) ≡ cond b (x ∷ xs) xs ++ ys
own_step true x xs ys = refl
own_step false x xs ys = refl

pub own_from-append : (p me : ℕ) (a b : History) → own_from p me (a ++ b) ≡ own_from p me a ++ own_from (p + length a) me b
own_from-append p me [] b = ap (λ (k : ℕ). own_from k me b) (sym (add-zero p))
own_from-append p me (e ∷ h) b =
    let k : p + 1 + length h ≡ p + suc (length h) = omega arith in
    ap (λ (rest : List (ℕ × Past)). cond (nat_eq (caller e) me) ((p, e) ∷ rest) rest) (own_from-append (p + 1) me h b ∙ ap (λ (q : ℕ). own_from (p + 1) me h ++ own_from q me b) k)
    ∙ own_step (nat_eq (caller e) me) (p, e) (own_from (p + 1) me h) (own_from (p + suc (length h)) me b)

pub own-append : (me : ℕ) (a b : History) → own me (a ++ b) ≡ own me a ++ own_from (length a) me b
own-append me a b = let k : 0 + length a ≡ length a = omega arith in own_from-append 0 me a b ∙ ap (λ (q : ℕ). own me a ++ own_from q me b) k

-- ---- fronts

pub front-refl : {A : Type 0} (xs : List A) → IsPrefix xs xs
front-refl xs = ([], append-nil xs)

pub front-trans : {A : Type 0} (xs ys zs : List A) → IsPrefix xs ys → IsPrefix ys zs → IsPrefix xs zs
front-trans {A = A} xs ys zs p q = (p.0 ++ q.0, sym (append_assoc xs p.0 q.0) ∙ ap (λ (w : List A). w ++ q.0) p.1 ∙ q.1)

pub front-length : {A : Type 0} (xs ys : List A) → IsPrefix xs ys → length xs ≤ length ys
front-length {A = A} xs ys p = let e : length ys ≡ length xs + length p.0 = ap (λ (w : List A). length w) (sym p.1) ∙ length-append xs p.0 in omega (arith, e)

pub imports-front : (a h : History) → IsPrefix a h → IsPrefix (imports a) (imports h)
imports-front a h f = (imports f.0, sym (imports-append a f.0) ∙ ap imports f.1)

pub newest-front : (a h : History) → IsPrefix a h → newest a ≤ newest h
newest-front a h f = let e : newest h ≡ newest a + newest f.0 = ap newest (sym f.1) ∙ newest-append a f.0 in omega (arith, e)

-- ---- snapshots one after another

uptos-rise : (m : Marks) (h : History) (s t : ℕ) → ArePublishedFrom m h → s ≤ t → t ≤ length (uptos h) → get_or (m.last ∷ uptos h) s 0 ≤ get_or (m.last ∷ uptos h) t 0
uptos-rise m [] s zero p le lt = let z : s ≡ 0 = omega arith in ap_le m.last s z
  where
    ap_le : (n k : ℕ) → k ≡ 0 → get_or (n ∷ []) k 0 ≤ n
    ap_le n zero e = omega arith
    ap_le n (suc k) e = omega arith
uptos-rise m [] s (suc t) p le lt = absurd (omega arith)
uptos-rise m (Import by r ∷ h) s t p le lt = uptos-rise (marked m (Import by r)) h s t p.1 le lt
uptos-rise m (Grow by key rows ∷ h) s t p le lt = uptos-rise (marked m (Grow by key rows)) h s t p.1 le lt
uptos-rise m (Publish by upto ∷ h) zero zero p le lt = omega arith
uptos-rise m (Publish by upto ∷ h) zero (suc t) p le lt =
    let e = uptos-rise (marked m (Publish by upto)) h zero t p.1 (omega arith) (omega arith) in omega (arith, e, p.0.0)
uptos-rise m (Publish by upto ∷ h) (suc s) zero p le lt = absurd (omega arith)
uptos-rise m (Publish by upto ∷ h) (suc s) (suc t) p le lt = uptos-rise (marked m (Publish by upto)) h s t p.1 (omega arith) (omega arith)

pub upto-rises : (h : History) (s t : ℕ) → ArePublishedFrom start h → s ≤ t → t ≤ newest h → upto_of h s ≤ upto_of h t
upto-rises h s t p le lt = uptos-rise start h s t p le lt

pub upto-came : (h : History) (s : ℕ) → ArePublishedFrom start h → s ≤ newest h → upto_of h s ≤ length (imports h)
upto-came h s p lt = omega (arith, upto_came start h s start_in_order p lt, count_from start h)

-- a list is its front and what follows that
take-both : {A : Type 0} (xs : List A) (i j : ℕ) → i ≤ j → take j xs ≡ take i xs ++ drop i (take j xs)
take-both [] zero zero le = refl
take-both [] zero (suc j) le = refl
take-both [] (suc i) zero le = absurd (omega arith)
take-both [] (suc i) (suc j) le = refl
take-both (x ∷ xs) zero j le = refl
take-both (x ∷ xs) (suc i) zero le = absurd (omega arith)
take-both {A = A} (x ∷ xs) (suc i) (suc j) le = ap (λ (ys : List A). x ∷ ys) (take-both xs i j (omega arith))

pub snap-front : (h : History) (s t : ℕ) → ArePublishedFrom start h → s ≤ t → t ≤ newest h → IsPrefix (snap h s) (snap h t)
snap-front h s t p le lt = (drop (upto_of h s) (snap h t), sym (take-both (imports h) (upto_of h s) (upto_of h t) (upto-rises h s t p le lt)))

-- the first so many imports are those of a snapshot, and those that were added
pub snap-added : (h : History) (s upto : ℕ) → upto_of h s ≤ upto → take upto (imports h) ≡ snap h s ++ added h s upto
snap-added h s upto le = take-both (imports h) (upto_of h s) upto le

-- ---- one more entry

pub own-push : (me : ℕ) (h : History) (e : Past) → nat_eq (caller e) me ≡ true → own me (h ++ e ∷ []) ≡ own me h ++ (length h, e) ∷ []
own-push me h e is = own-append me h (e ∷ []) ∙ ap (λ (b : Bool). own me h ++ cond b ((length h, e) ∷ []) []) is

pub own-other : (me : ℕ) (h : History) (e : Past) → nat_eq (caller e) me ≡ false → own me (h ++ e ∷ []) ≡ own me h
own-other me h e is = own-append me h (e ∷ []) ∙ ap (λ (b : Bool). own me h ++ cond b ((length h, e) ∷ []) []) is ∙ append-nil (own me h)

pub own-front : (me : ℕ) (a h : History) → IsPrefix a h → IsPrefix (own me a) (own me h)
own-front me a h f = (own_from (length a) me f.0, sym (own-append me a f.0) ∙ ap (own me) f.1)

entries_step : (b : Bool) (place : ℕ) (e : Past) (xs : List (ℕ × Past)) (ys : List Past) → map (λ (x : ℕ × Past). x.1) xs ≡ ys → map (λ (x : ℕ × Past). x.1) (cond b ((place, e) ∷ xs) xs) ≡ cond b (e ∷ ys) ys
entries_step true place e xs ys is = ap (λ (zs : List Past). e ∷ zs) is
entries_step false place e xs ys is = is

-- without their places
pub own_from-entries : (place me : ℕ) (h : History) → map (λ (x : ℕ × Past). x.1) (own_from place me h) ≡ by_caller me h
own_from-entries place me [] = refl
own_from-entries place me (e ∷ h) = entries_step (nat_eq (caller e) me) place e (own_from (place + 1) me h) (by_caller me h) (own_from-entries (place + 1) me h)

by_caller_step : (b : Bool) (e : Past) (xs ys : List Past) → cond b (e ∷ (xs ++ ys)) (xs ++ ys) ≡ cond b (e ∷ xs) xs ++ ys
by_caller_step true e xs ys = refl
by_caller_step false e xs ys = refl

pub by_caller-append : (me : ℕ) (a b : History) → by_caller me (a ++ b) ≡ by_caller me a ++ by_caller me b
by_caller-append me [] b = refl
by_caller-append me (e ∷ h) b = ap (λ (rest : List Past). cond (nat_eq (caller e) me) (e ∷ rest) rest) (by_caller-append me h b) ∙ by_caller_step (nat_eq (caller e) me) e (by_caller me h) (by_caller me b)

nothing_more : {A : Type 0} (xs ys : List A) → xs ++ ys ≡ xs → ys ≡ []
nothing_more [] ys e = e
nothing_more {A = A} (x ∷ xs) ys e = nothing_more xs ys (ap (λ (zs : List A). drop 1 zs) e)

no_entries : (xs : List (ℕ × Past)) → map (λ (x : ℕ × Past). x.1) xs ≡ [] → xs ≡ []
no_entries [] e = refl
no_entries (x ∷ xs) e = absurd cc

-- where a caller has no further entries, its own keep their places too
pub own-same : (me : ℕ) (a h : History) → IsPrefix a h → by_caller me h ≡ by_caller me a → own me h ≡ own me a
own-same me a h f e =
    let none : by_caller me f.0 ≡ [] = nothing_more (by_caller me a) (by_caller me f.0) (sym (by_caller-append me a f.0) ∙ ap (by_caller me) f.1 ∙ e) in
    ap (own me) (sym f.1) ∙ own-append me a f.0
    ∙ ap (λ (xs : List (ℕ × Past)). own me a ++ xs) (no_entries (own_from (length a) me f.0) (own_from-entries (length a) me f.0 ∙ none)) ∙ append-nil (own me a)

pub own-entries : (me : ℕ) (h : History) → map (λ (x : ℕ × Past). x.1) (own me h) ≡ by_caller me h
own-entries me h = own_from-entries 0 me h

pub kept-is : (keep : ℕ) (h : History) (s : ℕ) → IsKept keep h s ↔ ((oldest_kept keep h ≤ s) × (s ≤ newest h))
kept-is keep h s = (kept-exactly keep h s, kept-between keep h s)
