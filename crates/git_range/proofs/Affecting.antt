-- Going from row to row finds the commits that walks lead to.
use Rattle.std.proofs.Common.{◌≡◌, ℕ, zero, suc, ◌<◌, ◌≤◌, ◌↔◌, inl, inr, Bool, true, false, not, ◌&&◌, ◌||◌, eqb, List, [], ◌∷◌, length, reverse, get_or, Option, Some, None, All, Contains, IsTrue, IfOk, Result, Ok, Err, refl, sym, ap, subst, ◌∙◌, arith}
use Rattle.std.specs.List.{list_any, list_all}
use Rattle.std.specs.Option.{option_map_or}
use Rattle.std.specs.Str.{bytes_eq}
use Rattle.std.proofs.lemmas.Bool.{false≢true, true≢false, and_parts, and_from, or_cases, or_left, or_right, not-true, not_from_false, eqb-true, eq-eqb}
use Rattle.std.proofs.lemmas.List.{nil_from_length}
use Rattle.std.proofs.lemmas.List.Elements.{All-head, All-tail, Contains-append_right, Contains-get_or}
use Rattle.std.proofs.lemmas.List.Folds.{Any-from_list_any, list_any-from_Any}
use Rattle.std.proofs.lemmas.Bool.Decides.{same_from_decides}
use Rattle.std.proofs.lemmas.Slice.Eq.{bytes_eq-Decides}
use Rattle.osv_prim.specs.Oids.{oid_of}
use Rattle.osv_prim.specs.Graphs.{ids, id_at, IsLegal, IsParent, IsWalk, first_of, last_of, before_last, IsProperAncestor, is_kind, is_read, names, is_named, names_all, has_limit, IsBeforeLimit, IsWithinLimits, IsStart, IsReached, IsAffected}
use Rattle.osv_prim.specs.declared.oid.CommitRow.{CommitRow}
use Rattle.osv_prim.specs.declared.event.Event.{Event}
use Rattle.osv_prim.specs.declared.event.EventKind.TheVariants.{Introduced, Fixed, LastAffected, Limit}
use Rattle.git_range.specs.Affected.{is_start, reaches, leads, is_within_limits, is_affected}
use Rattle.commit_graph.proofs.Rows.{row_of, has_row}
use Rattle.git_range.proofs.Ids.{related, root_parents, is_root, is_parent, some_row}
use Rattle.git_range.proofs.Newest.{row_id, row_parents, parent_row, row_says, its_row}
use Rattle.git_range.proofs.Searching.{Leads, leads_itself, leads_before, reached_by}

-- of two tests that agree at each member of a list, either both find one or neither does
pub any_same : {A : Type 0} (p q : A → Bool) (xs : List A) → ((x : A) → Contains xs x → p x ≡ q x) → list_any p xs ≡ list_any q xs
any_same p q [] same = refl
any_same p q (x ∷ xs) same =
    ap (λ (b : Bool). b || list_any p xs) (same x (Contains-get_or (x ∷ xs) 0 x (omega arith)))
    ∙ ap (λ (b : Bool). q x || b) (any_same p q xs (λ y c. same y (Contains-append_right (x ∷ []) xs y c)))

module _ (graph : List CommitRow) (legal : IsLegal graph) where
  -- ---- proper ancestors

  module _ (a : List ℕ) where
    abbrev ahead : List ℕ → Bool
    ahead c = leads (reverse graph) a c

    abbrev led : List ℕ → CommitRow → (List ℕ → Bool) → Bool
    led c r go = list_any (λ p. bytes_eq a p || go p) r.parents

    led_same : (c : List ℕ) (r : CommitRow) (f g : List ℕ → Bool) → ((p : List ℕ) → Contains r.parents p → f p ≡ g p) → led c r f ≡ led c r g
    led_same c r f g same = any_same (λ p. bytes_eq a p || f p) (λ p. bytes_eq a p || g p) r.parents (λ p there. ap (λ (b : Bool). bytes_eq a p || b) (same p there))

    led_says : (k : ℕ) (lt : k < length graph) → ahead (id_at graph k) ≡ led (id_at graph k) (some_row graph k lt) ahead
    led_says = row_says graph legal led (λ rows. leads rows a) (λ c. refl) (λ r older c. refl) led_same

    led_row : (c : List ℕ) → ahead c ≡ true → (k : ℕ) × (k < length graph) × (id_at graph k ≡ c)
    led_row = its_row graph legal led (λ rows. leads rows a) (λ c. refl) (λ r older c. refl) led_same

    -- from a commit that was found ahead to the end of a walk
    ancestor_from : (bound k : ℕ) → k < bound → k < length graph → ahead (id_at graph k) ≡ true → (rest : List (List ℕ)) → IsWalk graph (id_at graph k ∷ rest)
        → IsProperAncestor graph a (last_of (id_at graph k ∷ rest))
    ancestor_from zero k low lt h rest walk = absurd (omega arith)
    ancestor_from (suc bound) k low lt h rest walk =
        let row = some_row graph k lt in
        let one = Any-from_list_any (λ p. bytes_eq a p || ahead p) row.parents (sym (led_says k lt) ∙ h) in
        let there : Contains row.parents one.1 = (one.0, one.2, one.3) in
        let j = parent_row graph legal k lt one.1 there in
        let parent = is_parent graph k lt one.1 (subst (λ (ps : List (List ℕ)). Contains ps one.1) (sym (row_parents graph k lt)) there) in
        elim (or_cases (bytes_eq a one.1) (ahead one.1) one.4) [
          | inl same ↦
              record {
                walk = a ∷ id_at graph k ∷ rest;
                is_walk = (subst (λ (x : List ℕ). IsParent graph x (id_at graph k)) (sym ((bytes_eq-Decides a one.1).0 same)) parent, walk);
                proper = omega arith;
                begins = refl;
                ends = refl;
              }
          | inr further ↦
              ancestor_from bound j.0 (omega (arith, j.1)) (omega (arith, j.1)) (ap ahead j.2 ∙ further) (id_at graph k ∷ rest)
              (subst (λ (x : List ℕ). IsParent graph x (id_at graph k)) (sym j.2) parent, walk)
        ]

    ancestor_of : (c : List ℕ) → ahead c ≡ true → IsProperAncestor graph a c
    ancestor_of c h =
        let k = led_row c h in
        subst (IsProperAncestor graph a) k.2 (ancestor_from (length graph) k.0 k.1 k.1 (ap ahead k.2 ∙ h) [] (has_row graph k.0 k.1))

    -- a commit's child lies ahead
    child_ahead : (p c : List ℕ) → IsParent graph p c → (bytes_eq a p || ahead p) ≡ true → ahead c ≡ true
    child_ahead p c parent h =
        let r = related graph legal p c parent in
        let named = subst (λ (ps : List (List ℕ)). Contains ps p) (row_parents graph r.child r.within) r.named in
        ap ahead (sym r.child_id) ∙ led_says r.child r.within
        ∙ list_any-from_Any (λ x. bytes_eq a x || ahead x) (some_row graph r.child r.within).parents (named.0, p, named.1, named.2, h)

    walk_ahead : (b : List ℕ) (rest : List (List ℕ)) → IsWalk graph (b ∷ rest) → ahead b ≡ true → ahead (last_of (b ∷ rest)) ≡ true
    walk_ahead b [] walk h = h
    walk_ahead b (c ∷ rest) walk h = walk_ahead c rest walk.1 (child_ahead b c walk.0 (or_right (bytes_eq a b) (ahead b) h))

    ahead_of : (c : List ℕ) → IsProperAncestor graph a c → ahead c ≡ true
    ahead_of c above = subst (λ (x : List ℕ). ahead x ≡ true) above.ends (by above.walk above.is_walk above.begins above.proper)
      where
        by : (walk : List (List ℕ)) → IsWalk graph walk → first_of walk ≡ a → 2 ≤ length walk → ahead (last_of walk) ≡ true
        by [] w b p = absurd w
        by (x ∷ []) w b p = absurd (omega (arith, p))
        by (x ∷ y ∷ rest) w b p = walk_ahead y rest w.1 (child_ahead x y w.0 (or_left (bytes_eq a x) (ahead x) ((bytes_eq-Decides a x).1 (sym b))))

  module _ (events : List Event) where
    -- ---- limits

    module _ (c : List ℕ) where
      abbrev limits : Event → Bool
      limits e = is_kind Limit e.kind && option_map_or (λ limit. leads (reverse graph) c limit) (oid_of e.value) false

      before_one : list_any limits events ≡ true → IsBeforeLimit graph events c
      before_one h =
          let one = Any-from_list_any limits events h in
          let parts = and_parts (is_kind Limit one.1.kind) (option_map_or (λ limit. leads (reverse graph) c limit) (oid_of one.1.value) false) one.4 in
          by one.0 one.1 one.2 one.3 parts.0 (oid_of one.1.value) refl parts.1
        where
          by : (i : ℕ) (e : Event) → i < length events → get_or events i e ≡ e → is_kind Limit e.kind ≡ true → (o : Option (List ℕ)) → oid_of e.value ≡ o
              → option_map_or (λ limit. leads (reverse graph) c limit) o false ≡ true → IsBeforeLimit graph events c
          by i e lt at kind None is h = absurd (false≢true h)
          by i e lt at kind (Some limit) is h =
              let same : option_map_or (bytes_eq limit) (oid_of e.value) false ≡ true = ap (λ (o : Option (List ℕ)). option_map_or (bytes_eq limit) o false) is ∙ (bytes_eq-Decides limit limit).1 refl in
              (limit, list_any-from_Any (names Limit limit) events (i, e, lt, at, and_from (is_kind Limit e.kind) (option_map_or (bytes_eq limit) (oid_of e.value) false) kind same), ancestor_of c limit h)

      one_before : IsBeforeLimit graph events c → list_any limits events ≡ true
      one_before before =
          let one = Any-from_list_any (names Limit before.0) events before.1 in
          let parts = and_parts (is_kind Limit one.1.kind) (option_map_or (bytes_eq before.0) (oid_of one.1.value) false) one.4 in
          list_any-from_Any limits events
          (one.0, one.1, one.2, one.3, and_from (is_kind Limit one.1.kind) (option_map_or (λ limit. leads (reverse graph) c limit) (oid_of one.1.value) false) parts.0 (by (oid_of one.1.value) parts.1))
        where
          by : (o : Option (List ℕ)) → option_map_or (bytes_eq before.0) o false ≡ true → option_map_or (λ limit. leads (reverse graph) c limit) o false ≡ true
          by None h = absurd (false≢true h)
          by (Some limit) h = subst (λ (x : List ℕ). leads (reverse graph) c x ≡ true) ((bytes_eq-Decides before.0 limit).0 h) (ahead_of c before.0 before.2)

      -- the test of the rows is true exactly where walks let the commit through
      pub within_by : is_within_limits graph events c ≡ true → IsWithinLimits graph events c
      within_by h =
          elim (or_cases (not (has_limit events) || names_all Limit events) (list_any limits events) h) [
            | inl free ↦
                elim (or_cases (not (has_limit events)) (names_all Limit events) free) [
                  | inl none ↦ inl (not-true (has_limit events) none)
                  | inr all ↦ inr (inl all)
                ]
            | inr some ↦ inr (inr (before_one some))
          ]

      pub by_within : IsWithinLimits graph events c → is_within_limits graph events c ≡ true
      by_within (inl none) =
          or_left (not (has_limit events) || names_all Limit events) (list_any limits events) (or_left (not (has_limit events)) (names_all Limit events) (not_from_false (has_limit events) none))
      by_within (inr (inl all)) = or_left (not (has_limit events) || names_all Limit events) (list_any limits events) (or_right (not (has_limit events)) (names_all Limit events) all)
      by_within (inr (inr before)) = or_right (not (has_limit events) || names_all Limit events) (list_any limits events) (one_before before)

    -- ---- where the range begins

    start_of : (k : ℕ) (lt : k < length graph) → is_start events (some_row graph k lt) ≡ true → IsStart graph events (id_at graph k)
    start_of k lt h =
        let r = some_row graph k lt in
        elim (or_cases (is_named Introduced events r.oid) (names_all Introduced events && eqb (length r.parents) 0) h) [
          | inl named ↦ inl (subst (λ (x : List ℕ). is_named Introduced events x ≡ true) (sym (row_id graph k lt)) named)
          | inr all ↦
              let parts = and_parts (names_all Introduced events) (eqb (length r.parents) 0) all in
              inr (parts.0, is_root graph k lt (row_parents graph k lt ∙ nil_from_length r.parents (eqb-true (length r.parents) 0 parts.1)))
        ]

    of_start : (k : ℕ) (lt : k < length graph) → IsStart graph events (id_at graph k) → is_start events (some_row graph k lt) ≡ true
    of_start k lt (inl named) =
        or_left (is_named Introduced events (some_row graph k lt).oid) (names_all Introduced events && eqb (length (some_row graph k lt).parents) 0)
        (subst (λ (x : List ℕ). is_named Introduced events x ≡ true) (row_id graph k lt) named)
    of_start k lt (inr root) =
        or_right (is_named Introduced events (some_row graph k lt).oid) (names_all Introduced events && eqb (length (some_row graph k lt).parents) 0)
        (and_from (names_all Introduced events) (eqb (length (some_row graph k lt).parents) 0) root.0
        (eq-eqb (length (some_row graph k lt).parents) 0 (ap (λ (ps : List (List ℕ)). length ps) (sym (row_parents graph k lt) ∙ root_parents graph legal k lt root.1))))

    -- ---- what the range reaches

    abbrev reached : List ℕ → Bool
    reached c = reaches events (reverse graph) c

    abbrev passes : (List ℕ → Bool) → List ℕ → Bool
    passes go p = not (is_named LastAffected events p) && go p

    abbrev begun : CommitRow → (List ℕ → Bool) → Bool
    begun r go = is_start events r || list_any (passes go) r.parents

    abbrev says : List ℕ → CommitRow → (List ℕ → Bool) → Bool
    says c r go = not (is_named Fixed events c) && begun r go

    says_same : (c : List ℕ) (r : CommitRow) (f g : List ℕ → Bool) → ((p : List ℕ) → Contains r.parents p → f p ≡ g p) → says c r f ≡ says c r g
    says_same c r f g same =
        ap (λ (b : Bool). not (is_named Fixed events c) && (is_start events r || b))
        (any_same (passes f) (passes g) r.parents (λ p there. ap (λ (b : Bool). not (is_named LastAffected events p) && b) (same p there)))

    reach_says : (k : ℕ) (lt : k < length graph) → reached (id_at graph k) ≡ says (id_at graph k) (some_row graph k lt) reached
    reach_says = row_says graph legal says (reaches events) (λ c. refl) (λ r older c. refl) says_same

    reach_parts : (k : ℕ) (lt : k < length graph) → reached (id_at graph k) ≡ true → (is_named Fixed events (id_at graph k) ≡ false) × (begun (some_row graph k lt) reached ≡ true)
    reach_parts k lt h =
        let parts = and_parts (not (is_named Fixed events (id_at graph k))) (begun (some_row graph k lt) reached) (sym (reach_says k lt) ∙ h) in
        (not-true (is_named Fixed events (id_at graph k)) parts.0, parts.1)

    -- from a commit that the range reaches on to the end
    reached_from : (end : List ℕ) (bound k : ℕ) → k < bound → k < length graph → reached (id_at graph k) ≡ true → Leads graph events (id_at graph k) end → IsReached graph events end
    reached_from end zero k low lt h lead = absurd (omega arith)
    reached_from end (suc bound) k low lt h lead =
        let row = some_row graph k lt in
        elim (or_cases (is_start events row) (list_any (passes reached) row.parents) (reach_parts k lt h).1) [
          | inl start ↦ reached_by graph events (id_at graph k) end lead (start_of k lt start)
          | inr some ↦
              let one = Any-from_list_any (passes reached) row.parents some in
              let parts = and_parts (not (is_named LastAffected events one.1)) (reached one.1) one.4 in
              let there : Contains row.parents one.1 = (one.0, one.2, one.3) in
              let j = parent_row graph legal k lt one.1 there in
              let j_lt : j.0 < length graph = omega (arith, j.1) in
              let j_reached : reached (id_at graph j.0) ≡ true = ap reached j.2 ∙ parts.1 in
              let parent = is_parent graph k lt one.1 (subst (λ (ps : List (List ℕ)). Contains ps one.1) (sym (row_parents graph k lt)) there) in
              reached_from end bound j.0 (omega (arith, j.1)) j_lt j_reached
              (leads_before graph events (id_at graph j.0) (id_at graph k) end (subst (λ (x : List ℕ). IsParent graph x (id_at graph k)) (sym j.2) parent) (reach_parts j.0 j_lt j_reached).0
              (ap (is_named LastAffected events) j.2 ∙ not-true (is_named LastAffected events one.1) parts.0) lead)
        ]

    is_reached : (c : List ℕ) → reached c ≡ true → IsReached graph events c
    is_reached c h =
        let k = its_row graph legal says (reaches events) (λ c. refl) (λ r older c. refl) says_same c h in
        let k_reached : reached (id_at graph k.0) ≡ true = ap reached k.2 ∙ h in
        subst (IsReached graph events) k.2
        (reached_from (id_at graph k.0) (length graph) k.0 k.1 k.1 k_reached (leads_itself graph events (id_at graph k.0) (has_row graph k.0 k.1) (reach_parts k.0 k.1 k_reached).0))

    -- by its row, the range reaches a commit
    reaches_row : (k : ℕ) (lt : k < length graph) (c : List ℕ) → id_at graph k ≡ c → is_named Fixed events c ≡ false → begun (some_row graph k lt) reached ≡ true → reached c ≡ true
    reaches_row k lt c is unfixed h =
        ap reached (sym is) ∙ reach_says k lt
        ∙ and_from (not (is_named Fixed events (id_at graph k))) (begun (some_row graph k lt) reached) (not_from_false (is_named Fixed events (id_at graph k)) (ap (is_named Fixed events) is ∙ unfixed)) h

    reaches_child : (p c : List ℕ) → IsParent graph p c → reached p ≡ true → is_named LastAffected events p ≡ false → is_named Fixed events c ≡ false → reached c ≡ true
    reaches_child p c parent h unended unfixed =
        let r = related graph legal p c parent in
        let row = some_row graph r.child r.within in
        let named = subst (λ (ps : List (List ℕ)). Contains ps p) (row_parents graph r.child r.within) r.named in
        reaches_row r.child r.within c r.child_id unfixed
        (or_right (is_start events row) (list_any (passes reached) row.parents)
        (list_any-from_Any (passes reached) row.parents (named.0, p, named.1, named.2, and_from (not (is_named LastAffected events p)) (reached p) (not_from_false (is_named LastAffected events p) unended) h)))

    reaches_start : (c : List ℕ) → Contains (ids graph) c → IsStart graph events c → is_named Fixed events c ≡ false → reached c ≡ true
    reaches_start c there start unfixed =
        let k = row_of graph c there in
        let row = some_row graph k.0 k.1 in
        reaches_row k.0 k.1 c k.2 unfixed (or_left (is_start events row) (list_any (passes reached) row.parents) (of_start k.0 k.1 (subst (IsStart graph events) (sym k.2) start)))

    reaches_walk : (a : List ℕ) (rest : List (List ℕ)) → IsWalk graph (a ∷ rest) → reached a ≡ true → All (λ x. is_named Fixed events x ≡ false) (a ∷ rest)
        → All (λ x. is_named LastAffected events x ≡ false) (before_last (a ∷ rest)) → reached (last_of (a ∷ rest)) ≡ true
    reaches_walk a [] walk h unfixed unended = h
    reaches_walk a (b ∷ rest) walk h unfixed unended =
        let later = All-tail (λ x. is_named Fixed events x ≡ false) a (b ∷ rest) unfixed in
        reaches_walk b rest walk.1
        (reaches_child a b walk.0 h (All-head (λ x. is_named LastAffected events x ≡ false) a (before_last (b ∷ rest)) unended) (All-head (λ x. is_named Fixed events x ≡ false) b rest later)) later
        (All-tail (λ x. is_named LastAffected events x ≡ false) a (before_last (b ∷ rest)) unended)

    reaches_it : (c : List ℕ) → IsReached graph events c → reached c ≡ true
    reaches_it c r = subst (λ (x : List ℕ). reached x ≡ true) r.ends (by r.walk r.is_walk r.begins r.unfixed r.unended)
      where
        begins_in : (a : List ℕ) (rest : List (List ℕ)) → IsWalk graph (a ∷ rest) → Contains (ids graph) a
        begins_in a [] w = w
        begins_in a (b ∷ rest) w =
            let e = related graph legal a b w.0 in
            subst (Contains (ids graph)) e.parent_id (has_row graph e.parent (omega (arith, e.earlier, e.within)))

        by : (walk : List (List ℕ)) → IsWalk graph walk → IsStart graph events (first_of walk) → All (λ x. is_named Fixed events x ≡ false) walk
            → All (λ x. is_named LastAffected events x ≡ false) (before_last walk) → reached (last_of walk) ≡ true
        by [] w b u d = absurd w
        by (a ∷ rest) w b u d = reaches_walk a rest w (reaches_start a (begins_in a rest w) b (All-head (λ x. is_named Fixed events x ≡ false) a rest u)) u d

-- ---- the law

pub affected_by_walks : (graph : List CommitRow) → IsLegal graph → (events : List Event) (c : List ℕ) → IsTrue (is_affected graph events c) ↔ IsAffected graph events c
unfolding is_affected
affected_by_walks graph legal events c = (forth, back)
  where
    forth : IsTrue (is_affected graph events c) → IsAffected graph events c
    forth h =
        let outer = and_parts (list_all is_read events && is_within_limits graph events c) (reaches events (reverse graph) c) h in
        let inner = and_parts (list_all is_read events) (is_within_limits graph events c) outer.0 in
        record { read = inner.0; within_limits = within_by graph legal events c inner.1; reached = is_reached graph legal events c outer.1 }

    back : IsAffected graph events c → IsTrue (is_affected graph events c)
    back a =
        and_from (list_all is_read events && is_within_limits graph events c) (reaches events (reverse graph) c)
        (and_from (list_all is_read events) (is_within_limits graph events c) a.read (by_within graph legal events c a.within_limits)) (reaches_it graph legal events c a.reached)

-- ---- what is answered

module _ (graph : List CommitRow) (events : List Event) (c : List ℕ) where
  -- an answer that is true exactly where walks say so
  pub value_by_walks : {E : Type 0} (answer : Result Bool E) → IsLegal graph → IfOk answer (λ b. IsTrue b ↔ IsAffected graph events c) → IfOk answer (λ b. b ≡ is_affected graph events c)
  value_by_walks (Ok b) legal exactly = same_from_decides b (is_affected graph events c) exactly (affected_by_walks graph legal events c)
  value_by_walks (Err e) legal exactly = tt

  pub unread : list_all is_read events ≡ false → IsTrue false ↔ IsAffected graph events c
  unread e = (λ h. absurd (false≢true h), λ a. absurd (true≢false (sym a.read ∙ e)))

  pub outside : (within : Bool) → IsTrue within ↔ IsWithinLimits graph events c → within ≡ false → IsTrue false ↔ IsAffected graph events c
  outside within exactly e = (λ h. absurd (false≢true h), λ a. absurd (true≢false (sym (exactly.1 a.within_limits) ∙ e)))

  pub inside : {E : Type 0} (within : Bool) (answer : Result Bool E) → list_all is_read events ≡ true → IsTrue within ↔ IsWithinLimits graph events c → within ≡ true
      → IfOk answer (λ b. IsTrue b ↔ IsReached graph events c) → IfOk answer (λ b. IsTrue b ↔ IsAffected graph events c)
  inside within (Ok b) read exactly e reached = (λ h. record { read = read; within_limits = exactly.0 e; reached = reached.0 h }, λ a. reached.1 a.reached)
  inside within (Err x) read exactly e reached = tt
