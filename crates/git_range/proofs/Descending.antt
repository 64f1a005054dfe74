-- Going down from the commits that limits name.
use Rattle.std.proofs.Common.{◌≡◌, ◌≢◌, ℕ, ◌+◌, ◌<◌, ◌≤◌, inl, inr, Bool, true, false, List, [], ◌∷◌, length, map, get_or, set, All, Contains, refl, sym, ap, subst, ◌∙◌, arith}
use Rattle.std.proofs.lemmas.Bool.{cases_eq, true≢false, false≢true}
use Rattle.std.proofs.lemmas.List.{length-set, get_or-set_same, get_or-set_other}
use Rattle.osv_prim.specs.Graphs.{id_at, parents_at, IsLegal, IsParent, IsWalk, first_of, last_of, is_named, IsBeforeLimit}
use Rattle.osv_prim.specs.declared.oid.CommitRow.{CommitRow}
use Rattle.osv_prim.specs.declared.event.Event.{Event}
use Rattle.osv_prim.specs.declared.event.EventKind.TheVariants.{Limit}
use Rattle.git_range.specs.Rows.{AreRows}
use Rattle.commit_graph.proofs.Rows.{has_row}
use Rattle.git_range.proofs.Ids.{related, one_row, is_parent, has_parent}
use Rattle.git_range.proofs.Marking.{IsMarked, still_marked, why_marked}
use Rattle.git_range.proofs.Parents.{was_marked, parent_marked}

-- a walk from a row's commit to one that a limit names, of at least two commits where the row is the end
record Ahead (graph : List CommitRow) (events : List Event) (end n : ℕ) : Type 0 where
  walk : List (List ℕ)
  is_walk : IsWalk graph walk
  begins : first_of walk ≡ id_at graph n
  limited : is_named Limit events (last_of walk) ≡ true
  proper : n ≡ end → 2 ≤ length walk

-- the marks of the rows that were passed on the way down
pub record Descending (graph : List CommitRow) (events : List Event) (end at : ℕ) (marks : List Bool) : Type 0 where
  pub above : end + 1 ≤ at
  pub within : at ≤ length graph
  pub size : length marks ≡ length graph
  sound : (n : ℕ) → n < length graph → get_or marks n false ≡ true → Ahead graph events end n
  limits : (n : ℕ) → n < length graph → n ≢ end → is_named Limit events (id_at graph n) ≡ true → get_or marks n false ≡ true
  passed : (n m : ℕ) → at ≤ n → n < length graph → get_or marks n false ≡ true → m < length graph → IsParent graph (id_at graph m) (id_at graph n) → get_or marks m false ≡ true

pub descending_start : (graph : List CommitRow) (events : List Event) (end : ℕ) (named : List Bool) → end < length graph
    → AreRows (length graph) named (λ n. is_named Limit events (id_at graph n)) → Descending graph events end (length graph) (set named end false)
descending_start graph events end named there rows =
    record {
      above = omega arith;
      within = omega arith;
      size = length-set named end false ∙ rows.size;
      sound = λ n lt h.
          elim (cases_eq n end) [
            | inl same ↦ absurd (false≢true (sym (ap (λ (k : ℕ). get_or (set named end false) k false) same ∙ get_or-set_same named end false false (omega (arith, rows.size))) ∙ h))
            | inr other ↦
                record {
                  walk = id_at graph n ∷ [];
                  is_walk = has_row graph n lt;
                  begins = refl;
                  limited = sym (rows.each n lt) ∙ sym (get_or-set_other named end n false false other) ∙ h;
                  proper = λ e. absurd (other e);
                }
          ];
      limits = λ n lt other h. get_or-set_other named end n false false other ∙ rows.each n lt ∙ h;
      passed = λ n m le lt. absurd (omega arith);
    }

module _ (graph : List CommitRow) (legal : IsLegal graph) (events : List Event) (end : ℕ) (there : end < length graph) where
  -- a row that isn't marked is passed over
  pub descending_over : (at : ℕ) (marks : List Bool) → end < at → Descending graph events end (at + 1) marks → get_or marks at false ≡ false → Descending graph events end at marks
  descending_over at marks low s free =
      record {
        above = omega (arith, low);
        within = omega (arith, s.within);
        size = s.size;
        sound = s.sound;
        limits = s.limits;
        passed = λ n m le lt mark.
            elim (cases_eq n at) [
              | inl same ↦ absurd (true≢false (sym (subst (λ (k : ℕ). get_or marks k false ≡ true) same mark) ∙ free))
              | inr other ↦ s.passed n m (omega arith) lt mark
            ];
      }

  module _ (at : ℕ) (marks new : List Bool) (ns : List ℕ) (low : end < at) (s : Descending graph events end (at + 1) marks) (mark : get_or marks at false ≡ true)
      (named : map (id_at graph) ns ≡ parents_at graph at) (earlier : All (λ p. p < at) ns) (marked : IsMarked ns marks new) where
    at_within : at < length graph
    at_within = omega (arith, s.within)

    parent_ahead : (n : ℕ) → Contains ns n → Ahead graph events end n
    parent_ahead n c =
        let a = s.sound at at_within mark in
        by a.walk a.is_walk a.begins a.limited
      where
        by : (walk : List (List ℕ)) → IsWalk graph walk → first_of walk ≡ id_at graph at → is_named Limit events (last_of walk) ≡ true → Ahead graph events end n
        by [] w b l = absurd w
        by (x ∷ rest) w b l =
            record {
              walk = id_at graph n ∷ x ∷ rest;
              is_walk = (subst (IsParent graph (id_at graph n)) (sym b) (is_parent graph at at_within (id_at graph n) (has_parent graph ns (parents_at graph at) named n c)), w);
              begins = refl;
              limited = l;
              proper = λ e. omega arith;
            }

    -- a row's parents are marked, and it is passed
    pub descending_on : length new ≡ length marks → Descending graph events end at new
    descending_on size =
        record {
          above = omega (arith, low);
          within = omega (arith, s.within);
          size = size ∙ s.size;
          sound = λ n lt h.
              elim (why_marked ns marks new marked n h) [
                | inl before ↦ s.sound n lt before
                | inr c ↦ parent_ahead n c
              ];
          limits = λ n lt other h. still_marked ns marks new marked n (s.limits n lt other h);
          passed = λ n m le lt h m_lt parent.
              elim (cases_eq n at) [
                | inl same ↦ parent_marked at ns earlier graph legal at_within named marks new marked m m_lt (subst (λ (k : ℕ). IsParent graph (id_at graph m) (id_at graph k)) same parent)
                | inr other ↦ still_marked ns marks new marked m (s.passed n m (omega arith) lt (was_marked at ns earlier marks new marked n le h) m_lt parent)
              ];
        }

  -- ---- at the end

  pub ends_before : (at : ℕ) (marks : List Bool) → Descending graph events end at marks → get_or marks end false ≡ true → IsBeforeLimit graph events (id_at graph end)
  ends_before at marks s mark =
      let a = s.sound end there mark in
      (last_of a.walk, a.limited, record { walk = a.walk; is_walk = a.is_walk; proper = a.proper refl; begins = a.begins; ends = refl })

  -- each commit of a walk to a limit is marked, down to the end
  all_marked : (marks : List Bool) → Descending graph events end (end + 1) marks → (a : List ℕ) (rest : List (List ℕ)) → IsWalk graph (a ∷ rest)
      → is_named Limit events (last_of (a ∷ rest)) ≡ true → (n : ℕ) → n < length graph → id_at graph n ≡ a → end ≤ n → (n ≡ end → 2 ≤ length (a ∷ rest)) → get_or marks n false ≡ true
  all_marked marks s a [] walk limited n lt is le proper =
      s.limits n lt (λ e. let long = proper e in omega (arith, long)) (subst (λ (x : List ℕ). is_named Limit events x ≡ true) (sym is) limited)
  all_marked marks s a (b ∷ rest) walk limited n lt is le proper =
      let r = related graph legal a b walk.0 in
      let same : r.parent ≡ n = one_row graph legal r.parent n (omega (arith, r.earlier, r.within)) lt (r.parent_id ∙ sym is) in
      let next = all_marked marks s b rest walk.1 limited r.child r.within r.child_id (omega (arith, r.earlier)) (λ e. absurd (omega (arith, r.earlier))) in
      s.passed r.child n (omega (arith, r.earlier)) r.within next lt (subst (λ (x : List ℕ). IsParent graph x (id_at graph r.child)) (sym is) (subst (IsParent graph a) (sym r.child_id) walk.0))

  pub before_ends : (marks : List Bool) → Descending graph events end (end + 1) marks → IsBeforeLimit graph events (id_at graph end) → get_or marks end false ≡ true
  before_ends marks s before = by (before.2).walk (before.2).is_walk (before.2).begins (before.2).proper (subst (λ (x : List ℕ). is_named Limit events x ≡ true) (sym (before.2).ends) before.1)
    where
      by : (walk : List (List ℕ)) → IsWalk graph walk → first_of walk ≡ id_at graph end → 2 ≤ length walk → is_named Limit events (last_of walk) ≡ true → get_or marks end false ≡ true
      by [] w b p l = absurd w
      by (a ∷ rest) w b p l = all_marked marks s a rest w l end there (sym b) (omega arith) (λ e. p)
