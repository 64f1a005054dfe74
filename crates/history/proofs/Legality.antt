-- Legal histories.
use Rattle.std.proofs.Common.{◌≡◌, ◌≢◌, ◌⊎◌, inl, inr, ℕ, suc, ◌+◌, ◌≤◌, Bool, true, false, cond, List, [], ◌∷◌, ◌++◌, length, get_or, AllPairs, bytes_eq, refl, sym, ap, subst, ◌∙◌, append_assoc, arith, length-append}
use mathlib.Core.List.{IsPrefix}
use Rattle.std.specs.Prelude.{fold, ◌↔◌}
use Rattle.std.proofs.lemmas.List.{append-nil, map-append, get_or_append_left}
use Rattle.std.proofs.lemmas.List.Folds.{list_any_none}
use Rattle.std.proofs.Math.Seq.{get_or-append_seam}
use Rattle.std.proofs.lemmas.Slice.Eq.{bytes_eq-Decides}
use Rattle.osv_prim.specs.declared.oid.CommitRow.{CommitRow}
use Rattle.osv_prim.specs.Graphs.{ids, has, with_row, joined}
use Rattle.osv_prim.specs.Graphs as of_rows
use Rattle.history.specs.declared.past.Past.{Past}
use Rattle.history.specs.declared.past.Past.TheVariants.{Import, Grow, Publish}
use Rattle.history.specs.Entries.{History, imports, uptos, newest, upto_of, snap}
use Rattle.history.specs.Prefixes.{graph}
use Rattle.history.specs.Legality.{Marks, marked, MayFollow, marks_from, ArePublishedFrom, start, marks, Extends, MayGrow, AreGrownFrom, IsLegal, MayCome, IsLegalBySentences}
use Rattle.history.proofs.Entries.{published-append, published-front, published-rest, marks_from-append, count_from, last_from, Grows, marks_grow, snap-stays, upto-came, snap-front, few}
use Rattle.history.proofs.Prefixes.{itself, false_from, graph-grown, graph-push}

-- ---- rows one after another

pub grown_from-append : (before a b : History) → AreGrownFrom before a → AreGrownFrom (before ++ a) b → AreGrownFrom before (a ++ b)
grown_from-append before [] b p q = subst (λ (x : History). AreGrownFrom x b) (append-nil before) q
grown_from-append before (e ∷ h) b p q = (p.0, grown_from-append (before ++ e ∷ []) h b p.1 (subst (λ (x : History). AreGrownFrom x b) (sym (append_assoc before (e ∷ []) h)) q))

pub grown_from-front : (before a b : History) → AreGrownFrom before (a ++ b) → AreGrownFrom before a
grown_from-front before [] b p = tt
grown_from-front before (e ∷ h) b p = (p.0, grown_from-front (before ++ e ∷ []) h b p.1)

pub grown_from-rest : (before a b : History) → AreGrownFrom before (a ++ b) → AreGrownFrom (before ++ a) b
grown_from-rest before [] b p = subst (λ (x : History). AreGrownFrom x b) (sym (append-nil before)) p
grown_from-rest before (e ∷ h) b p = subst (λ (x : History). AreGrownFrom x b) (append_assoc before (e ∷ []) h) (grown_from-rest (before ++ e ∷ []) h b p.1)

-- ---- legal histories

pub legal-empty : IsLegal []
legal-empty = record { published = tt; grown = tt }

pub legal-front : (a b : History) → IsLegal (a ++ b) → IsLegal a
legal-front a b l = record { published = published-front start a b l.published; grown = grown_from-front [] a b l.grown }

pub legal-push : (h : History) (e : Past) → IsLegal h → MayCome h e → IsLegal (h ++ e ∷ [])
legal-push h e l m =
    record {
      published = published-append start h (e ∷ []) l.published (m.published, tt);
      grown = grown_from-append [] h (e ∷ []) l.grown (m.grown, tt);
    }

pub legal-came : (h : History) (e : Past) (later : History) → IsLegal (h ++ e ∷ later) → MayCome h e
legal-came h e later l = record { published = (published-rest start h (e ∷ later) l.published).0; grown = (grown_from-rest [] h (e ∷ later) l.grown).0 }

pub legal-at_front : (a h : History) → IsPrefix a h → IsLegal h → IsLegal a
legal-at_front a h f l = legal-front a f.0 (subst (λ (x : History). IsLegal x) (sym f.1) l)

pub marks-grow : (a b : History) → IsLegal (a ++ b) → Grows (marks a) (marks (a ++ b))
marks-grow a b l = marks_grow a b l.published

-- ---- graphs of legal histories

pub not_there : (g : List CommitRow) (r : CommitRow) (rows : List CommitRow) → of_rows.IsLegal (g ++ r ∷ rows) → has g r.oid ≡ false
not_there g r rows l =
    let whole : ids (g ++ r ∷ rows) ≡ ids g ++ r.oid ∷ ids rows = map-append (λ (x : CommitRow). x.oid) g (r ∷ rows) in
    let differ : AllPairs (λ a b. a ≢ b) (ids g ++ r.oid ∷ ids rows) = subst (λ (xs : List (List ℕ)). AllPairs (λ a b. a ≢ b) xs) whole l.differ in
    let long : length (ids g ++ r.oid ∷ ids rows) ≡ length (ids g) + suc (length (ids rows)) = length-append (ids g) (r.oid ∷ ids rows) in
    list_any_none (bytes_eq r.oid) (ids g)
    (λ k d lt. false_from (bytes_eq r.oid (get_or (ids g) k d))
    (λ t. differ k (length (ids g)) d lt (omega (arith, long))
    (get_or_append_left (ids g) (r.oid ∷ ids rows) d k lt ∙ sym ((bytes_eq-Decides r.oid (get_or (ids g) k d)).0 t) ∙ sym (get_or-append_seam (ids g) r.oid (ids rows) d))))

-- rows that are new to a graph are put at its end
pub joined-new : (g rows : List CommitRow) → of_rows.IsLegal (g ++ rows) → joined g rows ≡ g ++ rows
joined-new g [] l = sym (append-nil g)
joined-new g (r ∷ rows) l =
    let whole : (g ++ r ∷ []) ++ rows ≡ g ++ r ∷ rows = append_assoc g (r ∷ []) rows in
    ap (λ (b : Bool). fold with_row (cond b g (g ++ r ∷ [])) rows) (not_there g r rows l)
    ∙ joined-new (g ++ r ∷ []) rows (subst (λ (xs : List CommitRow). of_rows.IsLegal xs) (sym whole) l) ∙ whole

no_rows : of_rows.IsLegal []
no_rows = record { differ = λ i j d lt within. absurd (omega arith); earlier = λ i lt. absurd (omega arith) }

if_same : (b : Bool) (k u : List ℕ) → bytes_eq k u ≡ b → (h : History) (rows : List CommitRow) → Extends (graph h k) rows → of_rows.IsLegal (graph h u) → of_rows.IsLegal (cond b (joined (graph h u) rows) (graph h u))
if_same true k u e h rows x l =
    let y : of_rows.IsLegal (graph h u ++ rows) = subst (λ (w : List ℕ). of_rows.IsLegal (graph h w ++ rows)) ((bytes_eq-Decides k u).0 e) x in
    subst (λ (xs : List CommitRow). of_rows.IsLegal xs) (sym (joined-new (graph h u) rows y)) y
if_same false k u e h rows x l = l

graph-step : (h : History) (e : Past) → MayGrow h e → ((u : List ℕ) → of_rows.IsLegal (graph h u)) → (u : List ℕ) → of_rows.IsLegal (graph (h ++ e ∷ []) u)
graph-step h (Import by r) m l u = subst (λ (xs : List CommitRow). of_rows.IsLegal xs) (sym (graph-grown h (Import by r ∷ []) u)) (l u)
graph-step h (Grow by k rows) m l u = subst (λ (xs : List CommitRow). of_rows.IsLegal xs) (sym (graph-push h by k rows u)) (if_same (bytes_eq k u) k u refl h rows m (l u))
graph-step h (Publish by upto) m l u = subst (λ (xs : List CommitRow). of_rows.IsLegal xs) (sym (graph-grown h (Publish by upto ∷ []) u)) (l u)

graphs_from-legal : (before h : History) → AreGrownFrom before h → ((u : List ℕ) → of_rows.IsLegal (graph before u)) → (u : List ℕ) → of_rows.IsLegal (graph (before ++ h) u)
graphs_from-legal before [] p l u = subst (λ (x : History). of_rows.IsLegal (graph x u)) (sym (append-nil before)) (l u)
graphs_from-legal before (e ∷ h) p l u =
    subst (λ (x : History). of_rows.IsLegal (graph x u)) (append_assoc before (e ∷ []) h) (graphs_from-legal (before ++ e ∷ []) h p.1 (graph-step before e p.0 l) u)

-- the graphs of a legal history are legal
pub graph-legal : (h : History) (u : List ℕ) → IsLegal h → of_rows.IsLegal (graph h u)
graph-legal h u l = graphs_from-legal [] h l.grown (λ w. no_rows) u

-- a legal Grow puts its rows at the end of its graph
pub graph-extended : (h : History) (by : ℕ) (key : List ℕ) (rows : List CommitRow) → Extends (graph h key) rows → graph (h ++ Grow by key rows ∷ []) key ≡ graph h key ++ rows
graph-extended h by key rows x =
    graph-push h by key rows key ∙ ap (λ (b : Bool). cond b (joined (graph h key) rows) (graph h key)) (itself key) ∙ joined-new (graph h key) rows x

-- ---- sentence by sentence

quiet-last : (m : Marks) (b : History) → uptos b ≡ [] → (marks_from m b).last ≡ m.last
quiet-last m [] e = refl
quiet-last m (Import by r ∷ h) e = quiet-last (marked m (Import by r)) h e
quiet-last m (Grow by key rows ∷ h) e = quiet-last (marked m (Grow by key rows)) h e
quiet-last m (Publish by upto ∷ h) e = absurd cc

quiet-before : (m : Marks) (b : History) → uptos b ≡ [] → (marks_from m b).before ≡ m.before
quiet-before m [] e = refl
quiet-before m (Import by r ∷ h) e = quiet-before (marked m (Import by r)) h e
quiet-before m (Grow by key rows ∷ h) e = quiet-before (marked m (Grow by key rows)) h e
quiet-before m (Publish by upto ∷ h) e = absurd cc

counted : (a : History) → (marks a).count ≡ length (imports a)
counted a = let e = count_from start a in omega (arith, e)

module _ (h : History) (l : IsLegal h) where
  at_publish : (a b : History) (by upto : ℕ) → h ≡ a ++ Publish by upto ∷ b → MayFollow (marks a) (Publish by upto)
  at_publish a b by upto e = (published-rest start a (Publish by upto ∷ b) (subst (λ (x : History). ArePublishedFrom start x) e l.published)).0

  at_next : (a b c : History) (by upto next later : ℕ) → h ≡ a ++ Publish by upto ∷ (b ++ Publish next later ∷ c)
      → MayFollow (marks_from (marked (marks a) (Publish by upto)) b) (Publish next later)
  at_next a b c by upto next later e =
      (published-rest (marked (marks a) (Publish by upto)) b (Publish next later ∷ c)
      (published-rest start a (Publish by upto ∷ (b ++ Publish next later ∷ c)) (subst (λ (x : History). ArePublishedFrom start x) e l.published)).1).0

  pub by_sentences : IsLegalBySentences h
  by_sentences =
      record {
        first = λ a b by upto e none. let m = at_publish a b by upto e in omega (arith, m.0);
        rises = λ a b c by upto next later e none. let m = at_next a b c by upto next later e in omega (arith, m.0, quiet-last (marked (marks a) (Publish by upto)) b none);
        came = λ a b by upto e. let m = at_publish a b by upto e in omega (arith, m.1, counted a);
        reaches = λ a b c by upto next later e none.
            let m = at_next a b c by upto next later e in omega (arith, m.2, quiet-before (marked (marks a) (Publish by upto)) b none, counted a);
        extends = λ a b by key rows e. (grown_from-rest [] a (Grow by key rows ∷ b) (subst (λ (x : History). AreGrownFrom [] x) e l.grown)).0;
      }

record LastPublish (a : History) : Type 0 where
  pub front : History
  pub by : ℕ
  pub upto : ℕ
  pub back : History
  pub stands : a ≡ front ++ Publish by upto ∷ back
  pub none : uptos back ≡ []

further : (e : Past) (a : History) → LastPublish a → LastPublish (e ∷ a)
further e a l = record { front = e ∷ l.front; by = l.by; upto = l.upto; back = l.back; stands = ap (λ (x : History). e ∷ x) l.stands; none = l.none }

last_publish : (a : History) → (uptos a ≡ []) ⊎ LastPublish a
last_publish [] = inl refl
last_publish (Import by r ∷ a) = elim (last_publish a) [ inl e ↦ inl e | inr l ↦ inr (further (Import by r) a l) ]
last_publish (Grow by key rows ∷ a) = elim (last_publish a) [ inl e ↦ inl e | inr l ↦ inr (further (Grow by key rows) a l) ]
last_publish (Publish by upto ∷ a) =
    elim (last_publish a) [ inl e ↦ inr (record { front = []; by = by; upto = upto; back = a; stands = refl; none = e }) | inr l ↦ inr (further (Publish by upto) a l) ]

module _ (h : History) (s : IsLegalBySentences h) where
  may_follow : (a b : History) (by upto : ℕ) → h ≡ a ++ Publish by upto ∷ b → (uptos a ≡ []) ⊎ LastPublish a → MayFollow (marks a) (Publish by upto)
  may_follow a b by upto e (inl none) =
      (omega (arith, quiet-last start a none, s.first a b by upto e none), omega (arith, counted a, s.came a b by upto e), omega (arith, quiet-before start a none))
  may_follow a b by upto e (inr l) =
      let m : marks a ≡ marks_from (marked (marks l.front) (Publish l.by l.upto)) l.back = ap marks l.stands ∙ marks_from-append start l.front (Publish l.by l.upto ∷ l.back) in
      let whole : h ≡ l.front ++ Publish l.by l.upto ∷ (l.back ++ Publish by upto ∷ b) =
      e ∙ ap (λ (x : History). x ++ Publish by upto ∷ b) l.stands ∙ append_assoc l.front (Publish l.by l.upto ∷ l.back) (Publish by upto ∷ b) in (
        omega (arith, ap (λ (k : Marks). k.last) m, quiet-last (marked (marks l.front) (Publish l.by l.upto)) l.back l.none, s.rises l.front l.back b l.by l.upto by upto whole l.none),
        omega (arith, counted a, s.came a b by upto e),
        omega (arith, ap (λ (k : Marks). k.before) m, quiet-before (marked (marks l.front) (Publish l.by l.upto)) l.back l.none, counted l.front, s.reaches l.front l.back b l.by l.upto by upto whole l.none),
      )

  may_come : (a : History) (e : Past) (b : History) → h ≡ a ++ e ∷ b → MayCome a e
  may_come a (Import by r) b is = record { published = tt; grown = tt }
  may_come a (Grow by key rows) b is = record { published = tt; grown = s.extends a b by key rows is }
  may_come a (Publish by upto) b is = record { published = may_follow a b by upto is (last_publish a); grown = tt }

  legal_onto : (a b : History) → h ≡ a ++ b → IsLegal a → IsLegal (a ++ b)
  legal_onto a [] is l = subst (λ (x : History). IsLegal x) (sym (append-nil a)) l
  legal_onto a (e ∷ b) is l =
      let whole : (a ++ e ∷ []) ++ b ≡ a ++ e ∷ b = append_assoc a (e ∷ []) b in
      subst (λ (x : History). IsLegal x) whole (legal_onto (a ++ e ∷ []) b (is ∙ sym whole) (legal-push a e l (may_come a e b is)))

  pub from_sentences : IsLegal h
  from_sentences = legal_onto [] h refl legal-empty

pub sentences : (h : History) → IsLegal h ↔ IsLegalBySentences h
sentences h = (by_sentences h, from_sentences h)

-- ---- snapshots of legal histories

pub snap-stays-legal : (a b : History) (s : ℕ) → IsLegal a → s ≤ newest a → snap (a ++ b) s ≡ snap a s
snap-stays-legal a b s l lt = snap-stays a b s l.published lt

pub upto-came-legal : (h : History) (s : ℕ) → IsLegal h → s ≤ newest h → upto_of h s ≤ length (imports h)
upto-came-legal h s l lt = upto-came h s l.published lt

pub snap-front-legal : (h : History) (s t : ℕ) → IsLegal h → s ≤ t → t ≤ newest h → IsPrefix (snap h s) (snap h t)
snap-front-legal h s t l le lt = snap-front h s t l.published le lt

pub few-legal : (h : History) → IsLegal h → newest h ≤ length (imports h)
few-legal h l = few h l.published

pub marks-only_grow : (a b : History) → IsLegal (a ++ b)
    → ((marks a).count ≤ (marks (a ++ b)).count) × ((marks a).last ≤ (marks (a ++ b)).last) × ((marks a).before ≤ (marks (a ++ b)).before)
marks-only_grow a b l = let g = marks-grow a b l in (g.count, g.last, g.before)

pub marks-count : (h : History) → (marks h).count ≡ length (imports h)
marks-count h = counted h

pub marks-last : (h : History) → (marks h).last ≡ upto_of h (newest h)
marks-last h = last_from start h
