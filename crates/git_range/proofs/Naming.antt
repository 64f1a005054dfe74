-- The rows that events name, one event after another.
use Rattle.std.proofs.Common.{◌≡◌, ◌≢◌, ℕ, ◌+◌, ◌<◌, inl, inr, Bool, true, false, not, ◌&&◌, ◌||◌, eqb, List, [], length, take, replicate, get_or, set, Option, Some, None, is_some, IsTrue, refl, sym, ap, ◌∙◌, arith}
use Rattle.std.specs.Option.{option_map_or}
use Rattle.std.specs.Str.{bytes_eq}
use Rattle.std.proofs.lemmas.Bool.{cases_Bool, cases_eq, eq-eqb, ne_eqb, true≢false, false≢true}
use Rattle.std.proofs.lemmas.List.{get_or-set_same, get_or-set_other, length-set, length-replicate, get_or-replicate}
use Rattle.std.proofs.lemmas.List.Folds.{list_any_more, list_any_at}
use Rattle.std.proofs.lemmas.Slice.Eq.{bytes_eq-Decides}
use Rattle.osv_prim.specs.Oids.{oid_of}
use Rattle.osv_prim.specs.Graphs.{ids, has, id_at, IsLegal, is_kind, names, is_named}
use Rattle.osv_prim.specs.declared.oid.CommitRow.{CommitRow}
use Rattle.osv_prim.specs.declared.event.Event.{Event}
use Rattle.osv_prim.specs.declared.event.EventKind.{EventKind}
use Rattle.osv_prim.specs.declared.event.EventKind.TheVariants.{Fixed, LastAffected}
use Rattle.git_range.specs.Rows.{AreRows, IsNamedRow, is_closed}
use Rattle.commit_graph.proofs.Rows.{length-ids}
use Rattle.git_range.proofs.Ids.{one_row}

-- ---- the row that one event names

pub names_none : (graph : List CommitRow) (kind : EventKind) (e : Event) → is_kind kind e.kind ≡ false → IsNamedRow graph kind e None
names_none graph kind e other n lt =
    (λ h. absurd cc, λ h. absurd (true≢false (sym h ∙ ap (λ (b : Bool). b && option_map_or (bytes_eq (id_at graph n)) (oid_of e.value) false) other)))

pub names_unread : (graph : List CommitRow) (kind : EventKind) (e : Event) → is_kind kind e.kind ≡ true → oid_of e.value ≡ None → IsNamedRow graph kind e None
names_unread graph kind e same unread n lt = (
  λ h. absurd cc,
  λ h. absurd (true≢false (sym h ∙ ap (λ (b : Bool). b && option_map_or (bytes_eq (id_at graph n)) (oid_of e.value) false) same
      ∙ ap (λ (o : Option (List ℕ)). option_map_or (bytes_eq (id_at graph n)) o false) unread)),
)

-- where the row is looked up by the id that the event names
pub names_row : (graph : List CommitRow) (kind : EventKind) (e : Event) (o : List ℕ) (row : Option ℕ) → is_kind kind e.kind ≡ true → oid_of e.value ≡ Some o
    → IsLegal graph → is_some row ≡ has graph o → ((n : ℕ) → row ≡ Some n → (n < length graph) × (id_at graph n ≡ o)) → IsNamedRow graph kind e row
names_row graph kind e o row same read legal found there n lt = (forth, back)
  where
    says : names kind (id_at graph n) e ≡ bytes_eq (id_at graph n) o
    says = ap (λ (b : Bool). b && option_map_or (bytes_eq (id_at graph n)) (oid_of e.value) false) same ∙ ap (λ (x : Option (List ℕ)). option_map_or (bytes_eq (id_at graph n)) x false) read

    forth : row ≡ Some n → IsTrue (names kind (id_at graph n) e)
    forth h = says ∙ (bytes_eq-Decides (id_at graph n) o).1 ((there n h).1)

    known : id_at graph n ≡ o → is_some row ≡ true
    known is = found ∙ list_any_at (bytes_eq o) (ids graph) n [] (omega (arith, length-ids graph)) ((bytes_eq-Decides o (id_at graph n)).1 (sym is))

    by : (r : Option ℕ) → row ≡ r → is_some r ≡ true → id_at graph n ≡ o → row ≡ Some n
    by None h k is = absurd (false≢true k)
    by (Some m) h k is = let t = there m h in h ∙ ap (λ (x : ℕ). Some x) (one_row graph legal m n t.0 lt (t.1 ∙ sym is))

    back : IsTrue (names kind (id_at graph n) e) → row ≡ Some n
    back h = let is : id_at graph n ≡ o = (bytes_eq-Decides (id_at graph n) o).0 (sym says ∙ h) in by row refl (known is) is

-- ---- one event more

or_more : (a b x : Bool) → x ≡ false → (a || b) ≡ (a || (b || x))
or_more true b x e = refl
or_more false true x e = refl
or_more false false x e = sym e

or_set : (a b x : Bool) → x ≡ true → true ≡ (a || (b || x))
or_set true b x e = refl
or_set false true x e = refl
or_set false false x e = sym e

module _ (graph : List CommitRow) (kind : EventKind) (events : List Event) (i : ℕ) (e : Event) (i_lt : i < length events) (at : e ≡ get_or events i e)
    (row : Option ℕ) (named : IsNamedRow graph kind e row) (first noted : List Bool) where
  abbrev Noted : List Bool → ℕ → ℕ → Type 0
  Noted xs j n = get_or xs n false ≡ (get_or first n false || is_named kind (take j events) (id_at graph n))

  more : (n : ℕ) → is_named kind (take (i + 1) events) (id_at graph n) ≡ (is_named kind (take i events) (id_at graph n) || names kind (id_at graph n) e)
  more n =
      list_any_more (names kind (id_at graph n)) events i e i_lt
      ∙ ap (λ (x : Event). is_named kind (take i events) (id_at graph n) || names kind (id_at graph n) x) (sym at)

  not_named : (n : ℕ) → n < length graph → row ≢ Some n → names kind (id_at graph n) e ≡ false
  not_named n lt ne =
      elim (cases_Bool (names kind (id_at graph n) e)) [
        | inl so ↦ absurd (ne ((named n lt).1 so))
        | inr otherwise ↦ otherwise
      ]

  pub noted_same : (n : ℕ) → n < length graph → row ≢ Some n → get_or noted n false ≡ (get_or first n false || is_named kind (take i events) (id_at graph n))
      → get_or noted n false ≡ (get_or first n false || is_named kind (take (i + 1) events) (id_at graph n))
  noted_same n lt ne h =
      h ∙ or_more (get_or first n false) (is_named kind (take i events) (id_at graph n)) (names kind (id_at graph n) e) (not_named n lt ne)
      ∙ ap (λ (b : Bool). get_or first n false || b) (sym (more n))

  pub noted_set : (m : ℕ) → row ≡ Some m → m < length noted → (n : ℕ) → n < length graph → get_or noted n false ≡ (get_or first n false || is_named kind (take i events) (id_at graph n))
      → get_or (set noted m true) n false ≡ (get_or first n false || is_named kind (take (i + 1) events) (id_at graph n))
  noted_set m is within n lt h =
      elim (cases_eq n m) [
        | inl same ↦
            let here : row ≡ Some n = is ∙ ap (λ (x : ℕ). Some x) (sym same) in
            ap (λ (k : ℕ). get_or (set noted m true) k false) same ∙ get_or-set_same noted m true false within
            ∙ or_set (get_or first n false) (is_named kind (take i events) (id_at graph n)) (names kind (id_at graph n) e) ((named n lt).0 here)
            ∙ ap (λ (b : Bool). get_or first n false || b) (sym (more n))
        | inr other ↦
            let elsewhere : row ≢ Some n = λ r. other (let both : Some m ≡ Some n = sym is ∙ r in cc) in
            get_or-set_other noted m n true false other ∙ noted_same n lt elsewhere h
      ]

-- what is noted where nothing was before
pub noted_fresh : (count : ℕ) (test : ℕ → Bool) (first noted : List Bool) → first ≡ replicate count false → length noted ≡ length first
    → ((n : ℕ) → n < length first → get_or noted n false ≡ (get_or first n false || test n)) → AreRows count noted test
noted_fresh count test first noted fresh size each =
    let long : length first ≡ count = ap (λ (xs : List Bool). length xs) fresh ∙ length-replicate count false in
    record {
      size = size ∙ long;
      each = λ n lt.
          each n (omega arith) ∙ ap (λ (b : Bool). b || test n) (ap (λ (xs : List Bool). get_or xs n false) fresh ∙ get_or-replicate count n false false lt);
    }

-- ---- fixed commits, and last affected ones but one

or_none : (a b x : Bool) → x ≡ true → a ≡ (a || (not x && b))
or_none true b x e = refl
or_none false b true e = refl
or_none false b false e = absurd (false≢true e)

or_both : (a b x : Bool) → x ≡ false → (a || b) ≡ (a || (not x && b))
or_both a b false e = refl
or_both a b true e = absurd (true≢false e)

pub closed_noted : (graph : List CommitRow) (events : List Event) (end : ℕ) (fixed noted : List Bool) → AreRows (end + 1) fixed (λ n. is_named Fixed events (id_at graph n))
    → length noted ≡ length fixed → ((n : ℕ) → n < length fixed → get_or noted n false ≡ (get_or fixed n false || is_named LastAffected events (id_at graph n)))
    → AreRows (end + 1) (set noted end (get_or fixed end false)) (is_closed graph events end)
closed_noted graph events end fixed noted rows size both =
    record {
      size = omega (arith, length-set noted end (get_or fixed end false), rows.size);
      each = λ n lt.
          elim (cases_eq n end) [
            | inl same ↦
                ap (λ (k : ℕ). get_or (set noted end (get_or fixed end false)) k false) same ∙ get_or-set_same noted end (get_or fixed end false) false (omega (arith, rows.size))
                ∙ ap (λ (k : ℕ). get_or fixed k false) (sym same) ∙ rows.each n lt
                ∙ or_none (is_named Fixed events (id_at graph n)) (is_named LastAffected events (id_at graph n)) (eqb n end) (eq-eqb n end same)
            | inr other ↦
                get_or-set_other noted end n (get_or fixed end false) false other ∙ both n (omega (arith, rows.size))
                ∙ ap (λ (b : Bool). b || is_named LastAffected events (id_at graph n)) (rows.each n lt)
                ∙ or_both (is_named Fixed events (id_at graph n)) (is_named LastAffected events (id_at graph n)) (eqb n end) (ne_eqb n end other)
          ];
    }
