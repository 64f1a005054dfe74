-- Going down from a commit to where a range begins.
use Rattle.std.proofs.Common.{◌≡◌, ℕ, ◌+◌, ◌<◌, ◌≤◌, inl, inr, Bool, true, false, not, ◌&&◌, ◌||◌, eqb, List, [], ◌∷◌, length, map, replicate, get_or, set, All, Contains, refl, sym, ap, subst, ◌∙◌, arith}
use Rattle.std.proofs.lemmas.Bool.{cases_lt, cases_eq, and_parts, and_from, and_left, and_right, or_cases, or_parts, or_from, or_left, or_right, not_from_true, eq-eqb, eqb-true, ne_eqb, true≢false, false≢true}
use Rattle.std.proofs.lemmas.List.{nil_from_length, length-map, length-set, length-replicate, get_or-replicate, get_or_past, get_or-set_same, get_or-set_other}
use Rattle.std.proofs.lemmas.List.Elements.{All-cons, All-nil, All-head, All-tail}
use Rattle.osv_prim.specs.Graphs.{ids, id_at, parents_at, IsLegal, IsParent, IsWalk, first_of, last_of, before_last, is_named, names_all, IsStart, IsReached}
use Rattle.osv_prim.specs.declared.oid.CommitRow.{CommitRow}
use Rattle.osv_prim.specs.declared.event.Event.{Event}
use Rattle.osv_prim.specs.declared.event.EventKind.TheVariants.{Introduced, Fixed, LastAffected}
use Rattle.git_range.specs.Rows.{is_closed}
use Rattle.commit_graph.proofs.Rows.{has_row}
use Rattle.git_range.proofs.Ids.{related, one_row, root_parents, is_root, is_parent, has_parent}
use Rattle.git_range.proofs.Marking.{IsMarked, still_marked, why_marked}
use Rattle.git_range.proofs.Parents.{below, was_marked, parent_marked}

-- a walk from a to c that meets no fixed commit, and a last affected one at most at its end
pub record Leads (graph : List CommitRow) (events : List Event) (a c : List ℕ) : Type 0 where
  pub walk : List (List ℕ)
  pub is_walk : IsWalk graph walk
  pub begins : first_of walk ≡ a
  pub ends : last_of walk ≡ c
  pub unfixed : All (λ x. is_named Fixed events x ≡ false) walk
  pub unended : All (λ x. is_named LastAffected events x ≡ false) (before_last walk)

pub leads_itself : (graph : List CommitRow) (events : List Event) (c : List ℕ) → Contains (ids graph) c → is_named Fixed events c ≡ false → Leads graph events c c
leads_itself graph events c there unfixed =
    record {
      walk = c ∷ [];
      is_walk = there;
      begins = refl;
      ends = refl;
      unfixed = All-cons (λ x. is_named Fixed events x ≡ false) c [] unfixed (All-nil (λ x. is_named Fixed events x ≡ false));
      unended = All-nil (λ x. is_named LastAffected events x ≡ false);
    }

pub leads_before : (graph : List CommitRow) (events : List Event) (p a c : List ℕ) → IsParent graph p a → is_named Fixed events p ≡ false → is_named LastAffected events p ≡ false
    → Leads graph events a c → Leads graph events p c
leads_before graph events p a c parent unfixed unended lead = by lead.walk lead.is_walk lead.begins lead.ends lead.unfixed lead.unended
  where
    by : (walk : List (List ℕ)) → IsWalk graph walk → first_of walk ≡ a → last_of walk ≡ c → All (λ x. is_named Fixed events x ≡ false) walk
        → All (λ x. is_named LastAffected events x ≡ false) (before_last walk) → Leads graph events p c
    by [] w b e u d = absurd w
    by (x ∷ rest) w b e u d =
        record {
          walk = p ∷ x ∷ rest;
          is_walk = (subst (IsParent graph p) (sym b) parent, w);
          begins = refl;
          ends = e;
          unfixed = All-cons (λ y. is_named Fixed events y ≡ false) p (x ∷ rest) unfixed u;
          unended = All-cons (λ y. is_named LastAffected events y ≡ false) p (before_last (x ∷ rest)) unended d;
        }

pub reached_by : (graph : List CommitRow) (events : List Event) (a c : List ℕ) → Leads graph events a c → IsStart graph events a → IsReached graph events c
reached_by graph events a c lead start =
    record {
      walk = lead.walk;
      is_walk = lead.is_walk;
      begins = subst (IsStart graph events) (sym lead.begins) start;
      ends = lead.ends;
      unfixed = lead.unfixed;
      unended = lead.unended;
    }

-- ---- what is closed

-- of `a || (not x && b)`
neither : (a b x : Bool) → (a || (not x && b)) ≡ false → x ≡ false → (a ≡ false) × (b ≡ false)
neither a b x h e = let p = or_parts a (not x && b) h in (p.0, sym (ap (λ (y : Bool). not y && b) e) ∙ p.1)

open_end : (a b x : Bool) → x ≡ true → a ≡ false → (a || (not x && b)) ≡ false
open_end a b x e h = or_from a (not x && b) h (and_left (not x) b (not_from_true x e))

open_before : (a b x : Bool) → a ≡ false → b ≡ false → (a || (not x && b)) ≡ false
open_before a b x p q = or_from a (not x && b) p (and_right (not x) b q)

-- a fixed commit isn't reached
pub closed_itself : (graph : List CommitRow) (events : List Event) (end : ℕ) → is_closed graph events end end ≡ true → IsReached graph events (id_at graph end) → ⊥
closed_itself graph events end shut reached = by reached.walk reached.is_walk reached.ends reached.unfixed
  where
    fixed : (a b x : Bool) → x ≡ true → (a || (not x && b)) ≡ true → a ≡ true
    fixed a b x e h =
        elim (or_cases a (not x && b) h) [
          | inl is ↦ is
          | inr some ↦ absurd (false≢true (sym (and_left (not x) b (not_from_true x e)) ∙ some))
        ]

    is_fixed : is_named Fixed events (id_at graph end) ≡ true
    is_fixed = fixed (is_named Fixed events (id_at graph end)) (is_named LastAffected events (id_at graph end)) (eqb end end) (eq-eqb end end refl) shut

    by : (walk : List (List ℕ)) → IsWalk graph walk → last_of walk ≡ id_at graph end → All (λ x. is_named Fixed events x ≡ false) walk → ⊥
    by [] w e u = w
    by (a ∷ []) w e u =
        true≢false (sym is_fixed ∙ subst (λ (x : List ℕ). is_named Fixed events x ≡ false) e (All-head (λ x. is_named Fixed events x ≡ false) a [] u))
    by (a ∷ b ∷ rest) w e u = by (b ∷ rest) w.1 e (All-tail (λ x. is_named Fixed events x ≡ false) a (b ∷ rest) u)

-- ---- the rows that were passed on the way down, and their marks

pub record Searching (graph : List CommitRow) (events : List Event) (end at : ℕ) (marks : List Bool) : Type 0 where
  pub within : at ≤ end + 1
  pub size : length marks ≡ end + 1
  pub itself : get_or marks end false ≡ true
  pub sound : (n : ℕ) → n < end + 1 → get_or marks n false ≡ true → is_closed graph events end n ≡ false → Leads graph events (id_at graph n) (id_at graph end)
  pub no_start : (n : ℕ) → at ≤ n → n < end + 1 → get_or marks n false ≡ true → is_closed graph events end n ≡ false → IsStart graph events (id_at graph n) → ⊥
  pub passed : (n m : ℕ) → at ≤ n → n < end + 1 → get_or marks n false ≡ true → is_closed graph events end n ≡ false → m < end + 1 → IsParent graph (id_at graph m) (id_at graph n)
      → get_or marks m false ≡ true

-- at first only the commit itself is marked
searching_first : (graph : List CommitRow) (events : List Event) (end : ℕ) (marks : List Bool) → end < length graph → is_closed graph events end end ≡ false → length marks ≡ end + 1
    → get_or marks end false ≡ true → ((n : ℕ) → get_or marks n false ≡ true → n ≡ end) → Searching graph events end (end + 1) marks
searching_first graph events end marks there unclosed size itself only =
    record {
      within = omega arith;
      size = size;
      itself = itself;
      sound = λ n lt mark free.
          subst (λ (k : ℕ). Leads graph events (id_at graph k) (id_at graph end)) (sym (only n mark))
          (leads_itself graph events (id_at graph end) (has_row graph end there)
          (or_parts (is_named Fixed events (id_at graph end)) (not (eqb end end) && is_named LastAffected events (id_at graph end)) unclosed).0);
      no_start = λ n le lt. absurd (omega arith);
      passed = λ n m le lt. absurd (omega arith);
    }

none_of : (k n : ℕ) → get_or (replicate k false) n false ≡ false
none_of k n =
    elim (cases_lt n k) [
      | inl lt ↦ get_or-replicate k n false false lt
      | inr le ↦ get_or_past (replicate k false) n false (omega (arith, length-replicate k false))
    ]

pub searching_start : (graph : List CommitRow) (events : List Event) (end : ℕ) (marks : List Bool) → end < length graph → is_closed graph events end end ≡ false
    → marks ≡ replicate (end + 1) false → Searching graph events end (end + 1) (set marks end true)
searching_start graph events end marks there unclosed fresh =
    let size : length marks ≡ end + 1 = ap (λ (xs : List Bool). length xs) fresh ∙ length-replicate (end + 1) false in
    searching_first graph events end (set marks end true) there unclosed (length-set marks end true ∙ size) (get_or-set_same marks end true false (omega arith))
    (λ n h.
    elim (cases_eq n end) [
      | inl same ↦ same
      | inr other ↦ absurd (false≢true (sym (get_or-set_other marks end n true false other ∙ ap (λ (xs : List Bool). get_or xs n false) fresh ∙ none_of (end + 1) n) ∙ h))
    ])

module _ (graph : List CommitRow) (legal : IsLegal graph) (events : List Event) (end : ℕ) (there : end < length graph) where
  -- a row that isn't marked, or that is closed, is passed over
  pub searching_over : (at : ℕ) (marks : List Bool) → Searching graph events end (at + 1) marks → (get_or marks at false ≡ true → is_closed graph events end at ≡ false → ⊥)
      → Searching graph events end at marks
  searching_over at marks s shut =
      record {
        within = omega (arith, s.within);
        size = s.size;
        itself = s.itself;
        sound = s.sound;
        no_start = λ n le lt mark free.
            elim (cases_eq n at) [
              | inl same ↦ absurd (shut (subst (λ (k : ℕ). get_or marks k false ≡ true) same mark) (subst (λ (k : ℕ). is_closed graph events end k ≡ false) same free))
              | inr other ↦ s.no_start n (omega arith) lt mark free
            ];
        passed = λ n m le lt mark free.
            elim (cases_eq n at) [
              | inl same ↦ absurd (shut (subst (λ (k : ℕ). get_or marks k false ≡ true) same mark) (subst (λ (k : ℕ). is_closed graph events end k ≡ false) same free))
              | inr other ↦ s.passed n m (omega arith) lt mark free
            ];
      }

  module _ (at : ℕ) (marks new : List Bool) (ns : List ℕ) (s : Searching graph events end (at + 1) marks) (mark : get_or marks at false ≡ true)
      (free : is_closed graph events end at ≡ false) (named : map (id_at graph) ns ≡ parents_at graph at) (earlier : All (λ p. p < at) ns) (marked : IsMarked ns marks new) where
    at_within : at < end + 1
    at_within = omega (arith, s.within)

    parent_leads : (n : ℕ) → Contains ns n → is_closed graph events end n ≡ false → Leads graph events (id_at graph n) (id_at graph end)
    parent_leads n c n_free =
        let lower = below at ns earlier n c in
        let free_of = neither (is_named Fixed events (id_at graph n)) (is_named LastAffected events (id_at graph n)) (eqb n end) n_free (ne_eqb n end (λ e. omega (arith, at_within))) in
        leads_before graph events (id_at graph n) (id_at graph at) (id_at graph end)
        (is_parent graph at (omega (arith, at_within)) (id_at graph n) (has_parent graph ns (parents_at graph at) named n c)) free_of.0 free_of.1 (s.sound at at_within mark free)

    -- a row's parents are marked, and it is passed
    pub searching_on : length new ≡ length marks → (IsStart graph events (id_at graph at) → ⊥) → Searching graph events end at new
    searching_on size not_here =
        record {
          within = omega (arith, s.within);
          size = size ∙ s.size;
          itself = still_marked ns marks new marked end s.itself;
          sound = λ n lt h n_free.
              elim (why_marked ns marks new marked n h) [
                | inl before ↦ s.sound n lt before n_free
                | inr c ↦ parent_leads n c n_free
              ];
          no_start = λ n le lt h n_free.
              elim (cases_eq n at) [
                | inl same ↦ λ start. not_here (subst (λ (k : ℕ). IsStart graph events (id_at graph k)) same start)
                | inr other ↦ s.no_start n (omega arith) lt (was_marked at ns earlier marks new marked n le h) n_free
              ];
          passed = λ n m le lt h n_free m_lt parent.
              elim (cases_eq n at) [
                | inl same ↦ parent_marked at ns earlier graph legal (omega (arith, at_within)) named marks new marked m (omega arith) (subst (λ (k : ℕ). IsParent graph (id_at graph m) (id_at graph k)) same parent)
                | inr other ↦ still_marked ns marks new marked m (s.passed n m (omega arith) lt (was_marked at ns earlier marks new marked n le h) n_free m_lt parent)
              ];
        }

  -- ---- at the end

  record IsOpen (marks : List Bool) (a : List ℕ) : Type 0 where
    number : ℕ
    within : number < end + 1
    is : id_at graph number ≡ a
    marked : get_or marks number false ≡ true
    free : is_closed graph events end number ≡ false

  -- each commit of a walk to the end that nothing bars is marked
  all_marked : (marks : List Bool) → Searching graph events end 0 marks → (a : List ℕ) (rest : List (List ℕ)) → IsWalk graph (a ∷ rest) → last_of (a ∷ rest) ≡ id_at graph end
      → All (λ x. is_named Fixed events x ≡ false) (a ∷ rest) → All (λ x. is_named LastAffected events x ≡ false) (before_last (a ∷ rest)) → IsOpen marks a
  all_marked marks s a [] walk ends unfixed unended =
      record {
        number = end;
        within = omega arith;
        is = sym ends;
        marked = s.itself;
        free =
            open_end (is_named Fixed events (id_at graph end)) (is_named LastAffected events (id_at graph end)) (eqb end end) (eq-eqb end end refl)
            (subst (λ (x : List ℕ). is_named Fixed events x ≡ false) ends (All-head (λ x. is_named Fixed events x ≡ false) a [] unfixed));
      }
  all_marked marks s a (b ∷ rest) walk ends unfixed unended =
      let next = all_marked marks s b rest walk.1 ends (All-tail (λ x. is_named Fixed events x ≡ false) a (b ∷ rest) unfixed) (All-tail (λ x. is_named LastAffected events x ≡ false) a (before_last (b ∷ rest)) unended) in
      let r = related graph legal a b walk.0 in
      let same : r.child ≡ next.number = one_row graph legal r.child next.number r.within (omega (arith, next.within)) (r.child_id ∙ sym next.is) in
      let lower : r.parent < end + 1 = omega (arith, r.earlier, same, next.within) in
      record {
        number = r.parent;
        within = lower;
        is = r.parent_id;
        marked =
            s.passed next.number r.parent (omega arith) next.within next.marked next.free lower
            (subst (λ (x : List ℕ). IsParent graph x (id_at graph next.number)) (sym r.parent_id) (subst (IsParent graph a) (sym next.is) walk.0));
        free =
            subst (λ (x : List ℕ). (is_named Fixed events x || (not (eqb r.parent end) && is_named LastAffected events x)) ≡ false) (sym r.parent_id)
            (open_before (is_named Fixed events a) (is_named LastAffected events a) (eqb r.parent end)
            (All-head (λ x. is_named Fixed events x ≡ false) a (b ∷ rest) unfixed) (All-head (λ x. is_named LastAffected events x ≡ false) a (before_last (b ∷ rest)) unended));
      }

  pub not_reached : (marks : List Bool) → Searching graph events end 0 marks → IsReached graph events (id_at graph end) → ⊥
  not_reached marks s reached = by reached.walk reached.is_walk reached.begins reached.ends reached.unfixed reached.unended
    where
      by : (walk : List (List ℕ)) → IsWalk graph walk → IsStart graph events (first_of walk) → last_of walk ≡ id_at graph end → All (λ x. is_named Fixed events x ≡ false) walk
          → All (λ x. is_named LastAffected events x ≡ false) (before_last walk) → ⊥
      by [] w b e u d = w
      by (a ∷ rest) w b e u d =
          let o = all_marked marks s a rest w e u d in
          s.no_start o.number (omega arith) o.within o.marked o.free (subst (IsStart graph events) (sym o.is) b)

  -- ---- where the range begins

  module _ (at : ℕ) (lt : at < length graph) (ns : List ℕ) (named : map (id_at graph) ns ≡ parents_at graph at) (introduced roots : Bool)
      (is : introduced ≡ is_named Introduced events (id_at graph at)) (all : roots ≡ names_all Introduced events) where
    pub starts_here : (introduced || (roots && eqb (length ns) 0)) ≡ true → IsStart graph events (id_at graph at)
    starts_here h =
        elim (or_cases introduced (roots && eqb (length ns) 0) h) [
          | inl one ↦ inl (sym is ∙ one)
          | inr some ↦
              let parts = and_parts roots (eqb (length ns) 0) some in
              inr (sym all ∙ parts.0, is_root graph at lt (sym named ∙ ap (map (id_at graph)) (nil_from_length ns (eqb-true (length ns) 0 parts.1))))
        ]

    pub starts_not : (introduced || (roots && eqb (length ns) 0)) ≡ false → IsStart graph events (id_at graph at) → ⊥
    starts_not h (inl one) = true≢false (sym (or_left introduced (roots && eqb (length ns) 0) (is ∙ one)) ∙ h)
    starts_not h (inr root) = true≢false (sym (or_right introduced (roots && eqb (length ns) 0) (and_from roots (eqb (length ns) 0) (all ∙ root.0) empty)) ∙ h)
      where
        empty : eqb (length ns) 0 ≡ true
        empty = eq-eqb (length ns) 0 (sym (length-map ns (id_at graph)) ∙ ap (λ (xs : List (List ℕ)). length xs) (named ∙ root_parents graph legal at lt root.1))
