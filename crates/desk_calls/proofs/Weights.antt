-- A build has few pieces: each GIT range weighs 64 bytes in its import.
use Rattle.std.proofs.Common.{◌≡◌, ℕ, zero, suc, ◌+◌, ◌*◌, ◌≤◌, List, [], ◌∷◌, length, take, Ordering, Less, Equal, Greater, nat_cmp, arith, length-append}
use Rattle.std.specs.Prelude.{flat_map}
use Rattle.std.specs.Ordering.{match_ordering}
use Rattle.std.specs.Cmp.Lexicographic.{slice_cmp}
use Rattle.osv_record.specs.Advisories.{Advisory, git_ranges}
use Rattle.osv_record.specs.Imports.{placed, records_from}
use Rattle.history.specs.declared.past.Past.{Past}
use Rattle.history.specs.declared.past.Past.TheVariants.{Import, Grow, Publish}
use Rattle.history.specs.Entries.{History, imports, weight}
use Rattle.history.specs.Prefixes.{advisories}
use Rattle.history.specs.Pieces.{ranges_of, git_ranges_in}
use Rattle.impact_job.proofs.Grouping.{range-count}

-- ---- the advisories that count have no more GIT ranges than all

abbrev ranges : List Advisory → ℕ
ranges rs = length (flat_map ranges_of rs)

with-one : (r : Advisory) (rs : List Advisory) → ranges (r ∷ rs) ≡ length (ranges_of r) + ranges rs
with-one r rs = length-append (ranges_of r) (flat_map ranges_of rs)

placed_step : (r x : Advisory) (xs : List Advisory) (o : Ordering) → ranges (placed r xs) ≤ length (ranges_of r) + ranges xs
    → ranges (match_ordering o (r ∷ x ∷ xs) (r ∷ xs) (x ∷ placed r xs)) ≤ length (ranges_of r) + ranges (x ∷ xs)
placed_step r x xs Less le = let e = with-one r (x ∷ xs) in omega (arith, e)
placed_step r x xs Equal le = let e = with-one r xs in let f = with-one x xs in omega (arith, e, f)
placed_step r x xs Greater le = let e = with-one x (placed r xs) in let f = with-one x xs in omega (arith, e, f, le)

few-placed : (r : Advisory) (xs : List Advisory) → ranges (placed r xs) ≤ length (ranges_of r) + ranges xs
few-placed r [] = let e = with-one r [] in omega (arith, e)
few-placed r (x ∷ xs) = placed_step r x xs (slice_cmp nat_cmp r.id x.id) (few-placed r xs)

few-records : (kept later : List Advisory) → ranges (records_from kept later) ≤ ranges kept + ranges later
few-records kept [] = omega arith
few-records kept (r ∷ later) =
    let e = few-records (placed r kept) later in
    let f = few-placed r kept in
    let g = with-one r later in
    omega (arith, e, f, g)

-- ---- each weighs 64

few-imported : (p : List Past) → 64 * ranges (advisories p) ≤ weight p
few-imported [] = omega arith
few-imported (Import by r ∷ p) =
    let e = few-imported p in
    let f = with-one r (advisories p) in
    let n : length (ranges_of r) ≡ git_ranges r.affected = range-count r in
    omega (arith, e, f, n)
few-imported (Grow by key rows ∷ p) = let e = few-imported p in omega (arith, e)
few-imported (Publish by upto ∷ p) = let e = few-imported p in omega (arith, e)

weight-take : (n : ℕ) (p : List Past) → weight (take n p) ≤ weight p
weight-take zero p = omega arith
weight-take (suc n) [] = omega arith
weight-take (suc n) (e ∷ p) = let f = weight-take n p in omega (arith, f)

weight-imports : (h : History) → weight (imports h) ≤ weight h
weight-imports [] = omega arith
weight-imports (Import by r ∷ h) = let f = weight-imports h in omega (arith, f)
weight-imports (Grow by key rows ∷ h) = let f = weight-imports h in omega (arith, f)
weight-imports (Publish by upto ∷ h) = let f = weight-imports h in omega (arith, f)

pub few-ranges : (upto : ℕ) (h : History) → 64 * length (git_ranges_in (take upto (imports h))) ≤ weight h
few-ranges upto h =
    let p : List Past = take upto (imports h) in
    let e : ranges (records_from [] (advisories p)) ≤ ranges [] + ranges (advisories p) = few-records [] (advisories p) in
    let f = few-imported p in
    let g = weight-take upto (imports h) in
    let k = weight-imports h in
    omega (arith, e, f, g, k)
