-- The sets of an advisory beside the numbers of its repositories tell which commits it affects.
use Rattle.std.proofs.Common.{◌≡◌, ℕ, ◌+◌, Bool, true, false, cond, ◌&&◌, ◌||◌, not, eqb, List, [], ◌∷◌, ◌++◌, Option, Some, None, bytes_eq, refl, sym, ap, subst, ◌∙◌}
use Rattle.std.specs.Prelude.{is_some, option_to_list, unwrap_or}
use Rattle.std.specs.List.{AllByRecursion, AllZip, flat_map, list_any}
use Rattle.std.specs.Option.{option_map_or}
use Rattle.std.proofs.lemmas.List.Elements.{recursion_from_All}
use Rattle.std.proofs.lemmas.List.Folds.{list_any-append}
use Rattle.std.proofs.lemmas.Slice.Eq.{bytes_eq-Decides}
use Rattle.osv_prim.specs.Graphs.{number_of}
use Rattle.osv_record.specs.Advisories.{Advisory, Entry, Extent, is_git}
use Rattle.evaluate.specs.Hits.{affects_commit}
use Rattle.history.specs.declared.past.Past.{Past}
use Rattle.history.specs.Prefixes.{graph}
use Rattle.history.specs.Pieces.{GitRange, ranges_from, ranges_of, ranges_of_entries}
use Rattle.impact_set.specs.Standing.{Known, StandsFor}
use Rattle.piece_work.specs.Sets.{IsSetOf}
use Rattle.set_hits.specs.Places.{has}
use Rattle.set_hits.proofs.Hitting.{in_graph, first_set}
use Rattle.package_index.specs.Numbers as of_keys
use Rattle.package_index.proofs.Numbering.{no-number, same-number, turned}
use Rattle.repo_index.specs.Index.{Noted, beside, has_at, is_noted, is_under}
use Rattle.repo_index.specs.Listing.{range_hits_on, entry_hits_on, hits_on}
use Rattle.repo_index.specs.Numbers.{AreNumbers, AreNumbersOf, HasRepo, HasRepos, IsNumberOf, entry_keys, range_keys}

turned-round : (b i h a : Bool) → (b ≡ true → h ≡ a) → (b && (i && h)) ≡ ((b && a) && i)
turned-round true true h true f = f refl
turned-round true true h false f = f refl
turned-round true false h true f = refl
turned-round true false h false f = refl
turned-round false i h a f = refl

either : (a h e rest : Bool) → ((a && e) || ((h && e) || rest)) ≡ (((a || h) && e) || rest)
either true h true rest = refl
either true true false rest = refl
either true false false rest = refl
either false h e rest = refl

shared : (a h e : Bool) → ((a && e) || (h && e)) ≡ ((a || h) && e)
shared true h true = refl
shared true true false = refl
shared true false false = refl
shared false h e = refl

no-set : (R : GitRange → Known → Type 0) (b : Bool) (x : GitRange) (xs more : List GitRange) → b ≡ true → AllZip R (cond b (x ∷ xs) xs ++ more) [] → ⊥
no-set R true x xs more e all = all
no-set R false x xs more e all = absurd cc

other-set : (R : GitRange → Known → Type 0) (b : Bool) (x : GitRange) (xs more : List GitRange) (sets : List Known) → b ≡ false → AllZip R (cond b (x ∷ xs) xs ++ more) sets → AllZip R (xs ++ more) sets
other-set R true x xs more sets e all = absurd cc
other-set R false x xs more sets e all = all

module _ (p : List Past) (keys : List (List ℕ)) (repo commit : List ℕ) (n i index : ℕ) (at : number_of (graph p repo) commit ≡ Some n) where
  abbrev tells : Noted → Bool
  tells e = is_under (of_keys.number_of keys repo) e.0 && has_at n i e.1

  abbrev told : List ℕ → List Known → Bool
  told numbers sets = list_any tells (beside index numbers sets)

  -- ---- a range

  is-place : (key : List ℕ) (m : ℕ) → IsNumberOf keys key m → is_under (of_keys.number_of keys repo) m ≡ bytes_eq key repo
  is-place key m is = by (of_keys.number_of keys repo) refl
    where
      by : (o : Option ℕ) → of_keys.number_of keys repo ≡ o → is_under o m ≡ bytes_eq key repo
      by None none = sym (turned key repo ∙ no-number keys repo key m none is)
      by (Some q) other = same-number keys repo key q m other is ∙ turned repo key

  set-tells : (x : Extent) (key : List ℕ) (m : ℕ) (known : Known) → x.repo ≡ Some key → IsNumberOf keys key m → StandsFor x.events (graph p (unwrap_or x.repo [])) known
      → tells (m, (index, known)) ≡ (range_hits_on p repo commit x && eqb index i)
  set-tells x key m known its is stands =
      let own = subst (λ (k : List ℕ). StandsFor x.events (graph p k) known) (ap (λ (o : Option (List ℕ)). unwrap_or o []) its) stands in
      ap (λ (b : Bool). b && (eqb index i && has known n)) (is-place key m is)
      ∙ turned-round (bytes_eq key repo) (eqb index i) (has known n) (affects_commit commit x.events (graph p repo))
      (λ same. in_graph x.events (graph p repo) known commit (subst (λ (k : List ℕ). StandsFor x.events (graph p k) known) ((bytes_eq-Decides key repo).0 same) own) (Some n) at)
      ∙ ap (λ (o : Option (List ℕ)). (option_map_or (λ k. bytes_eq k repo) o false && affects_commit commit x.events (graph p repo)) && eqb index i) (sym its)

  -- what is left of numbers and sets behind ranges, which affect the commit or not
  abbrev Left : List (List ℕ) → List GitRange → List ℕ → List Known → Bool → Type 0
  Left own more numbers sets hit = (later : List ℕ) × ((rest : List Known) × (AreNumbers keys own later × (AllZip (IsSetOf p) more rest × (told numbers sets ≡ ((hit && eqb index i) || told later rest)))))

  abbrev hit_by : List Extent → Bool
  hit_by xs = list_any (range_hits_on p repo commit) xs

  module _ (r : Advisory) (e : ℕ) (own : List (List ℕ)) (more : List GitRange) where
    abbrev Tells : ℕ → List Extent → Type 0
    Tells j xs = (numbers : List ℕ) (sets : List Known) → AreNumbers keys (flat_map range_keys xs ++ own) numbers → AllZip (IsSetOf p) (ranges_from r e j xs ++ more) sets → Left own more numbers sets (hit_by xs)

    range-step : (j : ℕ) (x : Extent) (xs : List Extent) → HasRepo x → Tells (j + 1) xs → (o : Option (List ℕ)) → x.repo ≡ o → (numbers : List ℕ) (sets : List Known)
        → AreNumbers keys ((option_to_list o ++ flat_map range_keys xs) ++ own) numbers → AllZip (IsSetOf p) (ranges_from r e j (x ∷ xs) ++ more) sets → Left own more numbers sets (hit_by (x ∷ xs))
    range-step j x xs its later None is numbers sets all_numbers all_sets =
        let f =
        later numbers sets all_numbers
        (other-set (IsSetOf p) (is_git x.kind) (record { advisory = r; entry = e; range = j; extent = x }) (ranges_from r e (j + 1) xs) more sets (sym its ∙ ap is_some is) all_sets)
        in
        let none : range_hits_on p repo commit x ≡ false = ap (λ (o : Option (List ℕ)). option_map_or (λ k. bytes_eq k repo) o false && affects_commit commit x.events (graph p repo)) is in
        (f.0, (f.1.0, (f.1.1.0, (f.1.1.1.0, f.1.1.1.1 ∙ sym (ap (λ (b : Bool). ((b || hit_by xs) && eqb index i) || told f.0 f.1.0) none)))))
    range-step j x xs its later (Some key) is [] sets all_numbers all_sets = absurd all_numbers
    range-step j x xs its later (Some key) is (m ∷ numbers) [] all_numbers all_sets =
        absurd (no-set (IsSetOf p) (is_git x.kind) (record { advisory = r; entry = e; range = j; extent = x }) (ranges_from r e (j + 1) xs) more (sym its ∙ ap is_some is) all_sets)
    range-step j x xs its later (Some key) is (m ∷ numbers) (known ∷ sets) all_numbers all_sets =
        let first = first_set (IsSetOf p) (is_git x.kind) (record { advisory = r; entry = e; range = j; extent = x }) (ranges_from r e (j + 1) xs) more known sets (sym its ∙ ap is_some is) all_sets in
        let f = later numbers sets all_numbers.1 first.1 in (
          f.0,
          (
            f.1.0,
            (
              f.1.1.0,
              (
                f.1.1.1.0,
                ap (λ (b : Bool). b || told numbers sets) (set-tells x key m known is all_numbers.0 first.0)
                    ∙ ap (λ (b : Bool). (range_hits_on p repo commit x && eqb index i) || b) f.1.1.1.1
                    ∙ either (range_hits_on p repo commit x) (hit_by xs) (eqb index i) (told f.0 f.1.0),
              ),
            ),
          ),
        )

    ranges-tell : (j : ℕ) (xs : List Extent) → AllByRecursion HasRepo xs → Tells j xs
    ranges-tell j [] its numbers sets all_numbers all_sets = (numbers, (sets, (all_numbers, (all_sets, refl))))
    ranges-tell j (x ∷ xs) its numbers sets all_numbers all_sets = range-step j x xs its.0 (ranges-tell (j + 1) xs its.1) x.repo refl numbers sets all_numbers all_sets

  -- ---- entries

  entries-tell : (r : Advisory) (e : ℕ) (entries : List Entry) → AllByRecursion HasRepos entries → (numbers : List ℕ) (sets : List Known) → AreNumbers keys (flat_map entry_keys entries) numbers
      → AllZip (IsSetOf p) (ranges_of_entries r e entries) sets → told numbers sets ≡ (list_any (entry_hits_on p repo commit) entries && eqb index i)
  entries-tell r e [] its [] sets all_numbers all_sets = refl
  entries-tell r e [] its (m ∷ numbers) sets all_numbers all_sets = absurd all_numbers
  entries-tell r e (a ∷ later) its numbers sets all_numbers all_sets =
      let f = ranges-tell r e (flat_map entry_keys later) (ranges_of_entries r (e + 1) later) 0 a.ranges (recursion_from_All HasRepo a.ranges its.0) numbers sets all_numbers all_sets in
      f.1.1.1.1
      ∙ ap (λ (b : Bool). (hit_by a.ranges && eqb index i) || b) (entries-tell r (e + 1) later its.1 f.0 f.1.0 f.1.1.0 f.1.1.1.0)
      ∙ shared (hit_by a.ranges) (list_any (entry_hits_on p repo commit) later) (eqb index i)

  none-told : (numbers : List ℕ) (sets : List Known) → AreNumbers keys [] numbers → told numbers sets ≡ false
  none-told [] sets none = refl
  none-told (m ∷ numbers) sets none = absurd none

  advisory-tells : (r : Advisory) (numbers : List ℕ) (sets : List Known) → AreNumbersOf keys r numbers → AllZip (IsSetOf p) (ranges_of r) sets → told numbers sets ≡ (hits_on p repo commit r && eqb index i)
  advisory-tells r numbers sets are all_sets = by r.withdrawn refl
    where
      by : (w : Bool) → r.withdrawn ≡ w → told numbers sets ≡ (hits_on p repo commit r && eqb index i)
      by true is =
          none-told numbers sets (subst (λ (w : Bool). AreNumbers keys (cond w [] (flat_map entry_keys r.affected)) numbers) is are.numbers)
          ∙ sym (ap (λ (w : Bool). (not w && list_any (entry_hits_on p repo commit) r.affected) && eqb index i) is)
      by false is =
          entries-tell r 0 r.affected (recursion_from_All HasRepos r.affected (are.repos is)) numbers sets
          (subst (λ (w : Bool). AreNumbers keys (cond w [] (flat_map entry_keys r.affected)) numbers) is are.numbers) all_sets
          ∙ sym (ap (λ (w : Bool). (not w && list_any (entry_hits_on p repo commit) r.affected) && eqb index i) is)

  -- what is noted then, and before
  pub noted-more : (r : Advisory) (entries : List Noted) (numbers : List ℕ) (sets : List Known) → AreNumbersOf keys r numbers → AllZip (IsSetOf p) (ranges_of r) sets
      → is_noted keys (entries ++ beside index numbers sets) repo n i ≡ (is_noted keys entries repo n i || (hits_on p repo commit r && eqb index i))
  noted-more r entries numbers sets are all_sets =
      list_any-append tells entries (beside index numbers sets) ∙ ap (λ (b : Bool). is_noted keys entries repo n i || b) (advisory-tells r numbers sets are all_sets)
