-- Each GIT range of the advisories that count is found by its indexes.
use Rattle.std.proofs.Common.{◌≡◌, ℕ, zero, suc, ◌+◌, Bool, true, false, cond, List, [], ◌∷◌, ◌++◌, map, Option, Some, None, refl, sym, ap, subst, ◌∙◌, arith}
use Rattle.std.specs.Prelude.{slice_get, flat_map, IfSome, option_map}
use Rattle.std.specs.Option.{option_map_or}
use Rattle.std.specs.List.{AllByRecursion}
use Rattle.std.proofs.lemmas.Option.{slice_get-map}
use Rattle.osv_record.specs.Advisories.{Extent, Entry, Advisory, is_git}
use Rattle.history.specs.declared.past.Past.{Past}
use Rattle.history.specs.declared.piece_kind.PieceKind.{PieceKind}
use Rattle.history.specs.Pieces.{GitRange, ranges_from, ranges_of_entries, ranges_of, git_ranges_in, pieces}
use Rattle.piece_work.specs.Works.{extent_at}

abbrev pub IsFound : GitRange → Type 0
IsFound x = extent_at x.advisory x.entry x.range ≡ Some x.extent

all-both : (xs ys : List GitRange) → AllByRecursion IsFound xs → AllByRecursion IsFound ys → AllByRecursion IsFound (xs ++ ys)
all-both [] ys p q = q
all-both (x ∷ xs) ys p q = (p.0, all-both xs ys p.1 q)

from_step : (b : Bool) (x : GitRange) (xs : List GitRange) → IsFound x → AllByRecursion IsFound xs → AllByRecursion IsFound (cond b (x ∷ xs) xs)
from_step true x xs p q = (p, q)
from_step false x xs p q = q

found-from : (r : Advisory) (e i : ℕ) (xs : List Extent) → ((k : ℕ) → extent_at r e (i + k) ≡ slice_get xs k) → AllByRecursion IsFound (ranges_from r e i xs)
found-from r e i [] h = tt
found-from r e i (x ∷ xs) h =
    let at : extent_at r e i ≡ Some x = ap (λ (n : ℕ). extent_at r e n) (let z : i ≡ i + 0 = omega arith in z) ∙ h 0 in
    from_step (is_git x.kind) (record { advisory = r; entry = e; range = i; extent = x }) (ranges_from r e (i + 1) xs) at
    (found-from r e (i + 1) xs (λ k. ap (λ (n : ℕ). extent_at r e n) (let z : (i + 1) + k ≡ i + suc k = omega arith in z) ∙ h (suc k)))

found-of_entries : (r : Advisory) (e : ℕ) (entries : List Entry) → ((k : ℕ) → slice_get r.affected (e + k) ≡ slice_get entries k) → AllByRecursion IsFound (ranges_of_entries r e entries)
found-of_entries r e [] h = tt
found-of_entries r e (a ∷ rest) h =
    let at : slice_get r.affected e ≡ Some a = ap (λ (n : ℕ). slice_get r.affected n) (let z : e ≡ e + 0 = omega arith in z) ∙ h 0 in
    all-both (ranges_from r e 0 a.ranges) (ranges_of_entries r (e + 1) rest)
    (found-from r e 0 a.ranges (λ k. ap (λ (o : Option Entry). option_map_or (λ (x : Entry). slice_get x.ranges (0 + k)) o None) at ∙ ap (λ (n : ℕ). slice_get a.ranges n) (let z : 0 + k ≡ k = omega arith in z)))
    (found-of_entries r (e + 1) rest (λ k. ap (λ (n : ℕ). slice_get r.affected n) (let z : (e + 1) + k ≡ e + suc k = omega arith in z) ∙ h (suc k)))

pub found-of : (r : Advisory) → AllByRecursion IsFound (ranges_of r)
found-of r = found-of_entries r 0 r.affected (λ k. ap (λ (n : ℕ). slice_get r.affected n) (let z : 0 + k ≡ k = omega arith in z))

pub found-each : (rs : List Advisory) → AllByRecursion IsFound (flat_map ranges_of rs)
found-each [] = tt
found-each (r ∷ rs) = all-both (ranges_of r) (flat_map ranges_of rs) (found-of r) (found-each rs)

pub at_index : (xs : List GitRange) (n : ℕ) (x : GitRange) → AllByRecursion IsFound xs → slice_get xs n ≡ Some x → IsFound x
at_index [] n x p e = absurd cc
at_index (y ∷ ys) zero x p e = let same : y ≡ x = cc in subst (λ (z : GitRange). IsFound z) same p.0
at_index (y ∷ ys) (suc n) x p e = at_index ys n x p.1 e

pub paired_range : (kind : GitRange → PieceKind) (o : Option GitRange) (x : GitRange) (k : PieceKind) → option_map {U = GitRange × PieceKind} (λ y. (y, kind y)) o ≡ Some (x, k) → (o ≡ Some x) × (kind x ≡ k)
paired_range kind None x k e = absurd cc
paired_range kind (Some y) x k e =
    let pair : GitRange × PieceKind = (y, kind y) in
    let other : GitRange × PieceKind = (x, k) in
    let both : pair ≡ other = cc in
    let same : y ≡ x = ap (λ (q : GitRange × PieceKind). q.0) both in
    (ap (λ (z : GitRange). Some z) same, ap kind (sym same) ∙ ap (λ (q : GitRange × PieceKind). q.1) both)
