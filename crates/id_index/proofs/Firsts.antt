-- The heads of the first advisories, and of those that moved.
use Rattle.std.proofs.Common.{◌≡◌, ℕ, zero, suc, ◌+◌, ◌<◌, ◌≤◌, inl, inr, List, [], ◌∷◌, ◌++◌, length, map, take, get_or, Option, Some, None, refl, sym, ap, subst, ◌∙◌, arith}
use Rattle.std.specs.Prelude.{slice_get, IfSome}
use Rattle.std.specs.List.{AllByRecursion}
use Rattle.std.proofs.lemmas.Bool.{cases_lt}
use Rattle.std.proofs.lemmas.List.{length-append, length-map, map-append, take_more, take_all}
use Rattle.osv_record.specs.Advisories.{Advisory}
use Rattle.record_moves.specs.Moved.{AreMoved}
use Rattle.impact_job.specs.Order.{ids}
use Rattle.id_index.specs.Heads.{head, BeginsWithBytes, AreFirst, IsHeadAt, IsIndexOf}

all-push : {X : Type 0} (P : X → Type 0) (xs : List X) (x : X) → AllByRecursion P xs → P x → AllByRecursion P (xs ++ x ∷ [])
all-push P [] x all here = (here, tt)
all-push P (y ∷ xs) x all here = (all.0, all-push P xs x all.1 here)

-- a head more
pub first-more : (heads : List ℕ) (rs : List Advisory) (r : Advisory) (number : ℕ) → AreFirst heads rs → length heads < length rs → r ≡ get_or rs (length heads) r → number ≡ head r.id → BeginsWithBytes 16 r.id
    → AreFirst (heads ++ number ∷ []) rs
first-more heads rs r number first lt is number_is bytes =
    let n = length heads in
    let long : length (heads ++ number ∷ []) ≡ n + 1 = length-append heads (number ∷ []) in
    let more : take (n + 1) rs ≡ take n rs ++ r ∷ [] = take_more rs n r lt ∙ ap (λ (x : Advisory). take n rs ++ x ∷ []) (sym is) in
    let their_ids : ids (take (length (heads ++ number ∷ [])) rs) ≡ ids (take n rs) ++ r.id ∷ [] =
    ap (λ (k : ℕ). ids (take k rs)) long ∙ ap ids more ∙ map-append (λ (x : Advisory). x.id) (take n rs) (r ∷ [])
    in
    record {
      heads_are =
          ap (λ (k : ℕ). heads ++ k ∷ []) number_is ∙ ap (λ (hs : List ℕ). hs ++ head r.id ∷ []) first.heads_are ∙ sym (ap (map head) their_ids ∙ map-append head (ids (take n rs)) (r.id ∷ []));
      bytes = subst (λ (xs : List (List ℕ)). AllByRecursion (BeginsWithBytes 16) xs) (sym their_ids) (all-push (BeginsWithBytes 16) (ids (take n rs)) r.id first.bytes bytes);
      within = omega (arith, long, lt);
    }

pub none-first : (rs : List Advisory) → AreFirst [] rs
none-first rs = record { heads_are = refl; bytes = tt; within = omega arith }

-- those of all
pub all-first : (heads : List ℕ) (rs : List Advisory) → AreFirst heads rs → length rs ≤ length heads → IsIndexOf heads rs
all-first heads rs first le =
    let whole : take (length heads) rs ≡ rs = take_all (length heads) rs le in
    record {
      heads_are = first.heads_are ∙ ap (λ (xs : List Advisory). map head (ids xs)) whole;
      bytes = subst (λ (xs : List Advisory). AllByRecursion (BeginsWithBytes 16) (ids xs)) whole first.bytes;
    }

-- ---- of those that moved

head-at : (rs : List Advisory) (i : ℕ) → AllByRecursion (BeginsWithBytes 16) (ids rs) → IsHeadAt (get_or (map head (ids rs)) i 0) i rs
head-at [] i bytes = tt
head-at (r ∷ rs) zero bytes = (refl, bytes.0)
head-at (r ∷ rs) (suc i) bytes = head-at rs i bytes.1

behind-none : (rs : List Advisory) (j : ℕ) → length rs ≤ j → slice_get rs j ≡ None
behind-none [] j le = refl
behind-none (r ∷ rs) zero le = absurd (omega (arith, le))
behind-none (r ∷ rs) (suc j) le = behind-none rs j (omega (arith, le))

pub moved-head : (moved added heads : List ℕ) (old new : List Advisory) → AreMoved moved added old new → IsIndexOf heads old → (i j : ℕ) → slice_get moved i ≡ Some j → IsHeadAt (get_or heads i 0) j new
moved-head moved added heads old new m index i j at =
    let is_head = λ (r : Advisory). (get_or heads i 0 ≡ head r.id) × BeginsWithBytes 16 r.id in
    elim (cases_lt j (length new)) [
      | inl lt ↦
          subst (λ (o : Option Advisory). IfSome o is_head) (m.same i j at lt) (subst (λ (hs : List ℕ). IsHeadAt (get_or hs i 0) i old) (sym index.heads_are) (head-at old i index.bytes))
      | inr le ↦ subst (λ (o : Option Advisory). IfSome o is_head) (sym (behind-none new j le)) tt
    ]

pub got : {X : Type 0} (xs : List X) (i : ℕ) (x : X) → i < length xs → x ≡ get_or xs i x → slice_get xs i ≡ Some x
got [] i x lt is = absurd (omega (arith, lt))
got (y ∷ xs) zero x lt is = ap (λ z. Some z) (sym is)
got (y ∷ xs) (suc i) x lt is = got xs i x (omega (arith, lt)) is

pub at-place : (number place : ℕ) (rs : List Advisory) (r : Advisory) → IsHeadAt number place rs → place < length rs → r ≡ get_or rs place r → (number ≡ head r.id) × BeginsWithBytes 16 r.id
at-place number place rs r at lt is = subst (λ (o : Option Advisory). IfSome o (λ x. (number ≡ head x.id) × BeginsWithBytes 16 x.id)) (got rs place r lt is) at

some-at : {X : Type 0} (xs : List X) (i : ℕ) → i < length xs → (x : X) × (x ≡ get_or xs i x)
some-at [] i lt = absurd (omega (arith, lt))
some-at (x ∷ xs) zero lt = (x, refl)
some-at (x ∷ xs) (suc i) lt = some-at xs i (omega (arith, lt))

-- one that is known
pub first-known : {A : Type 0} (see : A → Advisory) (heads : List ℕ) (records : List A) (known place : ℕ) → AreFirst heads (map see records) → length heads ≡ place → place < length records
    → IsHeadAt known place (map see records) → AreFirst (heads ++ known ∷ []) (map see records)
first-known see heads records known place first is lt at =
    let all = map see records in
    let low : place < length all = omega (arith, lt, length-map records see) in
    let one = some-at all place low in
    let facts = at-place known place all one.0 at low one.1 in
    first-more heads all one.0 known first (omega (arith, is, low)) (one.1 ∙ ap (λ (k : ℕ). get_or all k one.0) (sym is)) facts.0 facts.1

pub seen-at : {A : Type 0} (see : A → Advisory) (records : List A) (k : ℕ) (item : A) → k < length records → item ≡ get_or records k item → see item ≡ get_or (map see records) k (see item)
seen-at see [] k item lt is = absurd (omega (arith, lt))
seen-at see (x ∷ xs) zero item lt is = ap see is
seen-at see (x ∷ xs) (suc k) item lt is = seen-at see xs k item (omega (arith, lt)) is

pub moved-heads : (moved added heads : List ℕ) (old new : List Advisory) → AreMoved moved added old new → IsIndexOf heads old → (i : ℕ) → IfSome (slice_get moved i) (λ place. IsHeadAt (get_or heads i 0) place new)
moved-heads moved added heads old new m index i = by (slice_get moved i) refl
  where
    by : (o : Option ℕ) → slice_get moved i ≡ o → IfSome o (λ place. IsHeadAt (get_or heads i 0) place new)
    by None is = tt
    by (Some j) is = moved-head moved added heads old new m index i j is
