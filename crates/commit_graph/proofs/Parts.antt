-- Rows in segments.
use Rattle.std.proofs.Common.{◌≡◌, ◌≢◌, ℕ, suc, ◌+◌, ◌-◌, ◌<◌, ◌≤◌, ◌||◌, inl, inr, Bool, true, false, not, cond, ltb, position, List, [], ◌∷◌, ◌++◌, length, take, drop, get_or, AllPairs, Option, Some, None, refl, sym, ap, subst, ◌∙◌, arith, length-append}
use Rattle.std.specs.Prelude.{IfSome, is_some}
use Rattle.std.specs.List.{flat_map, position_or_len, list_any}
use Rattle.std.specs.Arc.{arc_value}
use Rattle.std.specs.Str.{bytes_eq}
use Rattle.std.specs.declared.sync.Arc.{Arc}
use Rattle.std.proofs.lemmas.List.{append_assoc, append-nil, map-append, length-map, get_or-map, take_all, take-map, map_push, get_or_append_left, get_or-append-add, take_more, take-append-drop}
use Rattle.std.proofs.lemmas.List.Concat.{flat_map-append, get_or-flat_map}
use Rattle.std.proofs.lemmas.List.Folds.{length-flat_map-take, list_any_at, list_any_none, list_any-append}
use Rattle.std.proofs.lemmas.List.Quantifiers.{position-Some}
use Rattle.std.proofs.lemmas.List.Sums.{position_or_len_is, fails_before_first, prefix_len-le-length}
use Rattle.std.proofs.lemmas.Bool.{cases_lt, lt-ltb, ltb-true, false_from_ne_true}
use Rattle.osv_prim.specs.declared.oid.CommitRow.{CommitRow}
use Rattle.indexmap.specs.IndexSet.{insert_key}
use Rattle.osv_prim.specs.Graphs.{ids, has, number_of}
use Rattle.commit_graph.specs.Segments.{Part, seen}
use Rattle.commit_graph.proofs.Numbers.{absent_before}
use Rattle.commit_graph.proofs.Rows.{length-ids, id_at-row, found}

-- ---- one segment more, and those before it

module _ {A : Type 0} (f : Part → List A) (parts : List Part) (i : ℕ) (part : Part) (lt : i < length parts) (at : part ≡ get_or parts i part) where
  pub rows_more : flat_map f (take (i + 1) parts) ≡ flat_map f (take i parts) ++ f part
  rows_more =
      ap (flat_map f) (take_more parts i part lt) ∙ flat_map-append f (take i parts) (get_or parts i part ∷ [])
      ∙ ap (λ xs. flat_map f (take i parts) ++ xs) (append-nil (f (get_or parts i part)) ∙ ap f (sym at))

  pub rows_within : length (flat_map f (take i parts)) + length (f part) ≤ length (flat_map f parts)
  rows_within = subst (λ (p : Part). length (flat_map f (take i parts)) + length (f p) ≤ length (flat_map f parts)) (sym at) (length-flat_map-take f parts i part lt)

  -- the row at an index of a segment
  pub row_in : (rest : List A) (number index : ℕ) (d : A) → index + length (flat_map f (take i parts)) ≡ number → index < length (f part) → get_or (flat_map f parts ++ rest) number d ≡ get_or (f part) index d
  row_in rest number index d count within =
      let here : length (flat_map f (take i parts)) + index ≡ number = omega (arith, count) in
      get_or_append_left (flat_map f parts) rest d number (omega (arith, rows_within, within, count))
      ∙ ap (λ n. get_or (flat_map f parts) n d) (sym here)
      ∙ get_or-flat_map f parts i index part d lt (subst (λ (p : Part). index < length (f p)) at within)
      ∙ ap (λ (p : Part). get_or (f p) index d) (sym at)

-- the same for segments that are shared
module _ {Z : Type 0} (segments : List (Arc Part Z)) (i : ℕ) (a : Arc Part Z) (lt : i < length segments) (at : a ≡ get_or segments i a) where
  seen_lt : i < length (seen segments)
  seen_lt = omega (arith, lt, length-map segments (λ (b : Arc Part Z). arc_value b))

  seen_at : arc_value a ≡ get_or (seen segments) i (arc_value a)
  seen_at = ap (λ (b : Arc Part Z). arc_value b) at ∙ sym (get_or-map (λ (b : Arc Part Z). arc_value b) segments i a (arc_value a) lt)

  module _ {A : Type 0} (f : Part → List A) where
    pub seen_more : flat_map f (take (i + 1) (seen segments)) ≡ flat_map f (take i (seen segments)) ++ f (arc_value a)
    seen_more = rows_more f (seen segments) i (arc_value a) seen_lt seen_at

    pub seen_counted : length (flat_map f (take (i + 1) (seen segments))) ≡ length (flat_map f (take i (seen segments))) + length (f (arc_value a))
    seen_counted = ap (λ (xs : List A). length xs) seen_more ∙ length-append (flat_map f (take i (seen segments))) (f (arc_value a))

    pub seen_within : length (flat_map f (take i (seen segments))) + length (f (arc_value a)) ≤ length (flat_map f (seen segments))
    seen_within = rows_within f (seen segments) i (arc_value a) seen_lt seen_at

    pub seen_in : (rest : List A) (number index : ℕ) (d : A) → index + length (flat_map f (take i (seen segments))) ≡ number → index < length (f (arc_value a))
        → get_or (flat_map f (seen segments) ++ rest) number d ≡ get_or (f (arc_value a)) index d
    seen_in = row_in f (seen segments) i (arc_value a) seen_lt seen_at

-- all segments lie before the end
pub seen_all : {Z A : Type 0} (f : Part → List A) (segments : List (Arc Part Z)) (i : ℕ) → length segments ≤ i → flat_map f (take i (seen segments)) ≡ flat_map f (seen segments)
seen_all {Z} f segments i le = ap (flat_map f) (take_all i (seen segments) (omega (arith, le, length-map segments (λ (b : Arc Part Z). arc_value b))))

-- the row at an index behind all segments
pub row_behind : {A : Type 0} (before rest : List A) (number index : ℕ) (d : A) → index + length before ≡ number → get_or (before ++ rest) number d ≡ get_or rest index d
row_behind before rest number index d count =
    let here : length before + index ≡ number = omega (arith, count) in
    ap (λ n. get_or (before ++ rest) n d) (sym here) ∙ get_or-append-add before rest index d

-- ---- the first member that passes a test

module _ {X : Type 0} (p : X → Bool) where
  at-first : (xs : List X) (a : ℕ) → a < length xs → position_or_len p xs ≡ a → position p xs ≡ Some a
  at-first xs a lt is = ap (λ (k : ℕ). cond (ltb k (length xs)) (Some k) None) is ∙ ap (λ (b : Bool). cond b (Some a) None) (lt-ltb a (length xs) lt)

  at-none : (xs : List X) → position_or_len p xs ≡ length xs → position p xs ≡ None
  at-none xs is =
      ap (λ (k : ℕ). cond (ltb k (length xs)) (Some k) None) is
      ∙ ap (λ (b : Bool). cond b (Some (length xs)) None) (false_from_ne_true (ltb (length xs) (length xs)) (λ h. omega (arith, ltb-true (length xs) (length xs) h)))

  past-end : (xs : List X) → position p xs ≡ None → position_or_len p xs ≡ length xs
  past-end xs none =
      elim (cases_lt (position_or_len p xs) (length xs)) [
        | inl lt ↦ let found = at-first xs (position_or_len p xs) lt refl in absurd cc
        | inr le ↦ omega (arith, prefix_len-le-length (λ x. not (p x)) xs)
      ]

  position_here : (xs ys : List X) (a : ℕ) (d : X) → position p xs ≡ Some a → position p (xs ++ ys) ≡ Some a
  position_here xs ys a d found =
      let within : a < length xs = (position-Some p xs a d found).0 in
      let more : a < length (xs ++ ys) = omega (arith, length-append xs ys) in
      at-first (xs ++ ys) a more
      (position_or_len_is p (xs ++ ys) a d (omega arith)
      (λ k lt. ap p (get_or_append_left xs ys d k (omega arith)) ∙ (position-Some p xs a d found).2 k lt)
      (λ lt. ap p (get_or_append_left xs ys d a within) ∙ (position-Some p xs a d found).1))

  none_before : (xs ys : List X) (d : X) → position p xs ≡ None → (k : ℕ) → k < length xs → p (get_or (xs ++ ys) k d) ≡ false
  none_before xs ys d none k lt = ap p (get_or_append_left xs ys d k lt) ∙ fails_before_first p xs k d (omega (arith, past-end xs none, lt))

  position_behind : (xs ys : List X) (a : ℕ) (d : X) → position p xs ≡ None → position p ys ≡ Some a → position p (xs ++ ys) ≡ Some (length xs + a)
  position_behind xs ys a d none found =
      let at = position-Some p ys a d found in
      let more : length xs + a < length (xs ++ ys) = omega (arith, length-append xs ys, at.0) in
      at-first (xs ++ ys) (length xs + a) more
      (position_or_len_is p (xs ++ ys) (length xs + a) d (omega arith)
      (λ k lt.
      elim (cases_lt k (length xs)) [
        | inl below ↦ none_before xs ys d none k below
        | inr le ↦ ap p (row_behind xs ys k (k - length xs) d (omega (arith, le))) ∙ at.2 (k - length xs) (omega (arith, le, lt))
      ])
      (λ lt. ap p (get_or-append-add xs ys a d) ∙ at.1))

  position_none : (xs ys : List X) (d : X) → position p xs ≡ None → position p ys ≡ None → position p (xs ++ ys) ≡ None
  position_none xs ys d none rest =
      at-none (xs ++ ys)
      (position_or_len_is p (xs ++ ys) (length (xs ++ ys)) d (omega arith)
      (λ k lt.
      elim (cases_lt k (length xs)) [
        | inl below ↦ none_before xs ys d none k below
        | inr le ↦
            ap p (row_behind xs ys k (k - length xs) d (omega (arith, le)))
            ∙ fails_before_first p ys (k - length xs) d (omega (arith, le, lt, length-append xs ys, past-end ys rest))
      ])
      (λ lt. absurd (omega (arith, lt))))

-- ---- the number of a commit

ids-append : (xs ys : List CommitRow) → ids (xs ++ ys) ≡ ids xs ++ ids ys
ids-append xs ys = map-append (λ (r : CommitRow). r.oid) xs ys

pub number_here : (xs ys : List CommitRow) (c : List ℕ) (n : ℕ) → number_of xs c ≡ Some n → number_of (xs ++ ys) c ≡ Some n
number_here xs ys c n is = ap (position (bytes_eq c)) (ids-append xs ys) ∙ position_here (bytes_eq c) (ids xs) (ids ys) n [] is

pub number_behind : (xs ys : List CommitRow) (c : List ℕ) (n k : ℕ) → number_of xs c ≡ None → number_of ys c ≡ Some n → k ≡ length xs → number_of (xs ++ ys) c ≡ Some (k + n)
number_behind xs ys c n k none is count =
    let first : length (ids xs) ≡ k = length-ids xs ∙ sym count in
    ap (position (bytes_eq c)) (ids-append xs ys) ∙ position_behind (bytes_eq c) (ids xs) (ids ys) n [] none is ∙ ap (λ m. Some (m + n)) first

pub number_none : (xs ys : List CommitRow) (c : List ℕ) → number_of xs c ≡ None → number_of ys c ≡ None → number_of (xs ++ ys) c ≡ None
number_none xs ys c none rest = ap (position (bytes_eq c)) (ids-append xs ys) ∙ position_none (bytes_eq c) (ids xs) (ids ys) [] none rest

pub number_within : (graph : List CommitRow) (c : List ℕ) (o : Option ℕ) → o ≡ number_of graph c → IfSome o (λ n. n < length graph)
number_within graph c None is = tt
number_within graph c (Some n) is = (found graph c n (sym is)).0

pub number_has : (graph : List CommitRow) (c : List ℕ) (o : Option ℕ) → o ≡ number_of graph c → is_some o ≡ has graph c
number_has graph c None is =
    let all = past-end (bytes_eq c) (ids graph) (sym is) in
    sym (list_any_none (bytes_eq c) (ids graph) (λ i d lt. fails_before_first (bytes_eq c) (ids graph) i d (omega (arith, all, lt))))
number_has graph c (Some n) is =
    let at = position-Some (bytes_eq c) (ids graph) n [] (sym is) in
    sym (list_any_at (bytes_eq c) (ids graph) n [] at.0 at.1)

-- the rows before an index, and the others
pub rows_split : {A : Type 0} (f : Part → List A) (parts : List Part) (i : ℕ) (rest : List A) → flat_map f parts ++ rest ≡ flat_map f (take i parts) ++ (flat_map f (drop i parts) ++ rest)
rows_split f parts i rest =
    ap (λ ps. flat_map f ps ++ rest) (sym (take-append-drop i parts)) ∙ ap (λ xs. xs ++ rest) (flat_map-append f (take i parts) (drop i parts))
    ∙ append_assoc (flat_map f (take i parts)) (flat_map f (drop i parts)) rest

-- ---- ids that differ

or-right : (a b : Bool) → (a || b) ≡ false → b ≡ false
or-right false b h = h
or-right true b h = absurd cc

pub absent_behind : (xs ys : List CommitRow) (c : List ℕ) → has (xs ++ ys) c ≡ false → has ys c ≡ false
absent_behind xs ys c h =
    or-right (has xs c) (has ys c)
    (sym (list_any-append (bytes_eq c) (ids xs) (ids ys)) ∙ ap (list_any (bytes_eq c)) (sym (ids-append xs ys)) ∙ h)

pub differ_inside : (before rows behind : List CommitRow) → AllPairs (λ a b. a ≢ b) (ids (before ++ (rows ++ behind))) → AllPairs (λ a b. a ≢ b) (ids rows)
differ_inside before rows behind differ i j d lt within same =
    let whole : ids (before ++ (rows ++ behind)) ≡ ids before ++ (ids rows ++ ids behind) = ids-append before (rows ++ behind) ∙ ap (λ xs. ids before ++ xs) (ids-append rows behind) in
    let at : (k : ℕ) → k < length (ids rows) → get_or (ids (before ++ (rows ++ behind))) (length (ids before) + k) d ≡ get_or (ids rows) k d =
    λ k k_lt. ap (λ xs. get_or xs (length (ids before) + k) d) whole ∙ get_or-append-add (ids before) (ids rows ++ ids behind) k d ∙ get_or_append_left (ids rows) (ids behind) d k k_lt in
    differ (length (ids before) + i) (length (ids before) + j) d (omega (arith, lt))
    (omega (arith, within, ap (λ (xs : List (List ℕ)). length xs) whole, length-append (ids before) (ids rows ++ ids behind), length-append (ids rows) (ids behind)))
    (at i (omega (arith, lt, within)) ∙ same ∙ sym (at j within))

take-append-add : {A : Type 0} (xs ys : List A) (i : ℕ) → take (length xs + i) (xs ++ ys) ≡ xs ++ take i ys
take-append-add [] ys i = let e : 0 + i ≡ i = omega arith in ap (λ n. take n ys) e
take-append-add (x ∷ xs) ys i =
    let e : length (x ∷ xs) + i ≡ suc (length xs + i) = omega arith in
    ap (λ n. take n (x ∷ (xs ++ ys))) e ∙ ap (λ zs. x ∷ zs) (take-append-add xs ys i)

pub absent_next : (rows : List CommitRow) (other : List CommitRow) (i : ℕ) (r : CommitRow) → i < length other → r ≡ get_or other i r → AllPairs (λ a b. a ≢ b) (ids (rows ++ other)) → has (rows ++ take i other) r.oid ≡ false
absent_next rows other i r lt at differ =
    let front : take (length rows + i) (rows ++ other) ≡ rows ++ take i other = take-append-add rows other i in
    ap (λ (g : List CommitRow). has g r.oid) (sym front)
    ∙ ap (has (take (length rows + i) (rows ++ other)))
    (ap (λ (x : CommitRow). x.oid) (at ∙ sym (get_or-append-add rows other i r))
    ∙ sym (id_at-row (rows ++ other) (length rows + i) r (omega (arith, lt, length-append rows other))))
    ∙ absent_before (rows ++ other) differ (length rows + i) (omega (arith, lt, length-append rows other))

-- the ids, and that of a row which isn't there yet
pub id_new : (rows : List CommitRow) (r : CommitRow) (keys : List (List ℕ)) → keys ≡ ids rows → has rows r.oid ≡ false → insert_key bytes_eq keys r.oid ≡ ids (rows ++ r ∷ [])
id_new rows r keys is absent =
    ap (λ ks. insert_key bytes_eq ks r.oid) is ∙ ap (λ (b : Bool). cond b (ids rows) (ids rows ++ r.oid ∷ [])) absent ∙ sym (ids-append rows (r ∷ []))

-- ---- rows behind others

pub rows_next : {A : Type 0} (base all so_far : List A) (i : ℕ) (x d : A) → so_far ≡ base ++ take i all → i < length all → x ≡ get_or all i d → so_far ++ x ∷ [] ≡ base ++ take (i + 1) all
rows_next base all so_far i x d is lt at =
    ap (λ xs. xs ++ x ∷ []) is ∙ append_assoc base (take i all) (x ∷ [])
    ∙ ap (λ xs. base ++ xs) (ap (λ y. take i all ++ y ∷ []) at ∙ sym (take_more all i d lt))

pub rows_done : {A : Type 0} (base all so_far : List A) (i : ℕ) → so_far ≡ base ++ take i all → length all ≤ i → so_far ≡ base ++ all
rows_done base all so_far i is le = is ∙ ap (λ xs. base ++ xs) (take_all i all le)

-- ---- segments as one

module _ {Z : Type 0} (segments : List (Arc Part Z)) (i : ℕ) (a : Arc Part Z) (lt : i < length segments) (at : a ≡ get_or segments i a) where
  pub number_found : (rest : List CommitRow) (c : List ℕ) (first n : ℕ) → number_of (flat_map (λ (p : Part). p.rows) (take i (seen segments))) c ≡ None
      → first ≡ length (flat_map (λ (p : Part). p.rows) (take i (seen segments))) → number_of (arc_value a).rows c ≡ Some n → number_of (flat_map (λ (p : Part). p.rows) (seen segments) ++ rest) c ≡ Some (first + n)
  number_found rest c first n none count is =
      let before = flat_map (λ (p : Part). p.rows) (take i (seen segments)) in
      let whole = flat_map (λ (p : Part). p.rows) (take (i + 1) (seen segments)) in
      ap (λ g. number_of g c) (rows_split (λ (p : Part). p.rows) (seen segments) (i + 1) rest)
      ∙ number_here whole (flat_map (λ (p : Part). p.rows) (drop (i + 1) (seen segments)) ++ rest) c (first + n)
      (ap (λ g. number_of g c) (seen_more segments i a lt at (λ (p : Part). p.rows)) ∙ number_behind before (arc_value a).rows c n first none is count)

  pub number_later : (c : List ℕ) → number_of (flat_map (λ (p : Part). p.rows) (take i (seen segments))) c ≡ None → number_of (arc_value a).rows c ≡ None
      → number_of (flat_map (λ (p : Part). p.rows) (take (i + 1) (seen segments))) c ≡ None
  number_later c none later =
      ap (λ g. number_of g c) (seen_more segments i a lt at (λ (p : Part). p.rows)) ∙ number_none (flat_map (λ (p : Part). p.rows) (take i (seen segments))) (arc_value a).rows c none later

  pub differ_next : (front whole fresh : List CommitRow) → front ++ whole ≡ flat_map (λ (p : Part). p.rows) (take i (seen segments))
      → AllPairs (λ a b. a ≢ b) (ids (flat_map (λ (p : Part). p.rows) (seen segments) ++ fresh)) → AllPairs (λ a b. a ≢ b) (ids (whole ++ (arc_value a).rows))
  differ_next front whole fresh is differ =
      let rest = flat_map (λ (p : Part). p.rows) (drop (i + 1) (seen segments)) ++ fresh in
      let split : flat_map (λ (p : Part). p.rows) (seen segments) ++ fresh ≡ front ++ ((whole ++ (arc_value a).rows) ++ rest) =
      rows_split (λ (p : Part). p.rows) (seen segments) (i + 1) fresh
      ∙ ap (λ xs. xs ++ rest) (seen_more segments i a lt at (λ (p : Part). p.rows) ∙ ap (λ xs. xs ++ (arc_value a).rows) (sym is) ∙ append_assoc front whole (arc_value a).rows)
      ∙ append_assoc front (whole ++ (arc_value a).rows) rest in
      differ_inside front (whole ++ (arc_value a).rows) rest (subst (λ (g : List CommitRow). AllPairs (λ a b. a ≢ b) (ids g)) split differ)

  pub merged_next : {A : Type 0} (f : Part → List A) (front whole : List A) → front ++ whole ≡ flat_map f (take i (seen segments)) → front ++ (whole ++ f (arc_value a)) ≡ flat_map f (take (i + 1) (seen segments))
  merged_next f front whole is = sym (append_assoc front whole (f (arc_value a))) ∙ ap (λ xs. xs ++ f (arc_value a)) is ∙ sym (seen_more segments i a lt at f)

pub differ_last : (front whole fresh all : List CommitRow) → front ++ whole ≡ all → AllPairs (λ a b. a ≢ b) (ids (all ++ fresh)) → AllPairs (λ a b. a ≢ b) (ids (whole ++ fresh))
differ_last front whole fresh all is differ =
    let split : all ++ fresh ≡ front ++ ((whole ++ fresh) ++ []) =
    ap (λ xs. xs ++ fresh) (sym is) ∙ append_assoc front whole fresh ∙ ap (λ xs. front ++ xs) (sym (append-nil (whole ++ fresh))) in
    differ_inside front (whole ++ fresh) [] (subst (λ (g : List CommitRow). AllPairs (λ a b. a ≢ b) (ids g)) split differ)

pub merged_last : {A : Type 0} (front whole fresh all : List A) → front ++ whole ≡ all → front ++ (whole ++ fresh) ≡ all ++ fresh
merged_last front whole fresh all is = sym (append_assoc front whole fresh) ∙ ap (λ xs. xs ++ fresh) is

-- a segment behind others, and no fresh rows
pub sealed_rows : {A : Type 0} (f : Part → List A) (parts : List Part) (last : Part) → flat_map f (parts ++ last ∷ []) ++ [] ≡ flat_map f parts ++ f last
sealed_rows f parts last =
    append-nil (flat_map f (parts ++ last ∷ [])) ∙ flat_map-append f parts (last ∷ []) ∙ ap (λ xs. flat_map f parts ++ xs) (append-nil (f last))

pub sealed_same : {Z A : Type 0} (f : Part → List A) (segments others : List (Arc Part Z)) (from : ℕ) (a : Arc Part Z) (last : Part) (fresh none : List A) → others ≡ take from segments ++ a ∷ [] → arc_value a ≡ last → none ≡ []
    → flat_map f (take from (seen segments)) ++ f last ≡ flat_map f (seen segments) ++ fresh → flat_map f (seen others) ++ none ≡ flat_map f (seen segments) ++ fresh
sealed_same {Z} f segments others from a last fresh none is value empty whole =
    let parts : seen others ≡ take from (seen segments) ++ last ∷ [] =
    ap (λ (xs : List (Arc Part Z)). seen xs) is ∙ map_push (λ (b : Arc Part Z). arc_value b) (take from segments) a
    ∙ ap (λ xs. xs ++ arc_value a ∷ []) (sym (take-map (λ (b : Arc Part Z). arc_value b) from segments)) ∙ ap (λ p. take from (seen segments) ++ p ∷ []) value in
    ap (λ ps. flat_map f ps ++ none) parts ∙ ap (λ xs. flat_map f (take from (seen segments) ++ last ∷ []) ++ xs) empty
    ∙ sealed_rows f (take from (seen segments)) last ∙ whole
