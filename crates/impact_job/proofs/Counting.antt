-- How many GIT ranges advisories have, by their sets and by their counts.
use Rattle.std.proofs.Common.{◌≡◌, ℕ, zero, suc, ◌+◌, ◌<◌, List, [], ◌∷◌, ◌++◌, length, map, take, drop, get_or, refl, sym, ap, subst, ◌∙◌, arith}
use Rattle.std.specs.Prelude.{Option}
use Rattle.std.specs.Arc.{arc_value}
use Rattle.std.specs.List.{AllZip}
use Rattle.std.specs.declared.sync.Arc.{Arc}
use Rattle.std.proofs.lemmas.List.{map-append, length-map}
use Rattle.osv_record.specs.Advisories.{Advisory, git_ranges}
use Rattle.osv_record.specs.Imports.{records_from}
use Rattle.osv_record.specs.Imports as counting
use Rattle.history.specs.declared.past.Past.{Past}
use Rattle.history.specs.Prefixes.{records, advisories}
use Rattle.history.specs.Pieces.{ranges_of}
use Rattle.impact_set.specs.Standing.{Known}
use Rattle.piece_work.specs.Sets.{IsSetOf}
use Rattle.impact_job.specs.Order.{Ascend, IsSplit}
use Rattle.impact_job.specs.Tables.{AreSetsOf, git_counts}
use Rattle.impact_job.proofs.Merging.{Merging, merging-more}
use Rattle.impact_job.proofs.Prefixes.{planned, kept-ascend}
use Rattle.impact_job.proofs.Walking.{zip-length}
use Rattle.impact_job.proofs.Grouping.{range-count}

counts-append : (xs ys : List Advisory) → git_counts (xs ++ ys) ≡ git_counts xs ++ git_counts ys
counts-append xs ys = map-append (λ (r : Advisory). git_ranges r.affected) xs ys

-- as many as sets
pub by-sets : {Z : Type 0} (b : List Past) (rs : List Advisory) (sets : List (List (Arc Known Z))) → AllZip (AreSetsOf b) rs sets → map (λ own. length own) sets ≡ git_counts rs
by-sets b [] [] z = refl
by-sets b [] (own ∷ sets) z = absurd z
by-sets b (r ∷ rs) [] z = absurd z
by-sets b (r ∷ rs) (own ∷ sets) z =
    let its : length own ≡ git_ranges r.affected = sym (length-map own (λ a. arc_value a)) ∙ sym (zip-length (IsSetOf b) (ranges_of r) (map (λ a. arc_value a) own) z.0) ∙ range-count r in
    ap (λ (n : ℕ). n ∷ map (λ own. length own) sets) its ∙ ap (λ (ns : List ℕ). git_ranges r.affected ∷ ns) (by-sets b rs sets z.1)

-- ---- turns of the walk over those that changed

pub record Counting {Z : Type 0} (b : List Past) (counts : List ℕ) (rest : List Advisory) (sets : List (List (Arc Known Z))) (later whole : List Advisory) : Type 0 where
  -- those that were counted
  pub done : List Advisory
  pub counted : counts ≡ git_counts done
  pub merging : Merging done rest later whole
  pub old : AllZip (AreSetsOf b) rest sets

pub counting-more : {Z : Type 0} (b : List Past) (counts : List ℕ) (rest : List Advisory) (sets : List (List (Arc Known Z))) (y : Advisory) (ys whole below : List Advisory) (found : Option Advisory) (above : List Advisory) (more last : List ℕ) (later : List (List (Arc Known Z)))
    → Counting b counts rest sets (y ∷ ys) whole → IsSplit y.id rest below found above → more ≡ counts ++ git_counts below → last ≡ more ++ git_ranges y.affected ∷ [] → AllZip (AreSetsOf b) above later
    → Counting b last above later ys whole
counting-more b counts rest sets y ys whole below found above more last later m s more_is last_is old =
    record {
      done = (m.done ++ below) ++ y ∷ [];
      counted =
          last_is
          ∙ ap (λ (ns : List ℕ). ns ++ git_ranges y.affected ∷ []) (more_is ∙ ap (λ (ns : List ℕ). ns ++ git_counts below) m.counted ∙ sym (counts-append m.done below))
          ∙ sym (counts-append (m.done ++ below) (y ∷ []));
      merging = merging-more m.done rest below found above y ys whole m.merging s;
      old = old;
    }

pub counting-whole : {Z : Type 0} (b : List Past) (counts : List ℕ) (rest : List Advisory) (sets : List (List (Arc Known Z))) (whole : List Advisory) (last : List ℕ)
    → Counting b counts rest sets [] whole → last ≡ counts ++ git_counts rest → last ≡ git_counts whole
counting-whole b counts rest sets whole last m last_is =
    last_is ∙ ap (λ (ns : List ℕ). ns ++ git_counts rest) m.counted ∙ sym (counts-append m.done rest) ∙ ap git_counts m.merging.so_far

-- the counts of those that count after all imports
pub counts-planned : (b came p : List Past) (added changed : List Advisory) (counts : List ℕ) → p ≡ b ++ came → added ≡ advisories came → changed ≡ counting.records added
    → (Ascend changed → counts ≡ git_counts (records_from (records b) changed)) → counts ≡ git_counts (records p)
counts-planned b came p added changed counts whole came_is last c =
    let later : changed ≡ records came = last ∙ ap (λ (xs : List Advisory). counting.records xs) came_is in
    c (subst (λ (xs : List Advisory). Ascend xs) (sym later) (kept-ascend came))
    ∙ ap git_counts (planned b came p (records b) added changed (records_from (records b) changed) whole refl came_is last (λ up down. refl))

-- ---- the advisory at an index of the counts

pub record Counted (rs : List Advisory) (i count : ℕ) : Type 0 where
  pub item : Advisory
  pub its : count ≡ git_ranges item.affected
  pub next : drop i rs ≡ item ∷ drop (i + 1) rs
  pub more : take (i + 1) rs ≡ take i rs ++ item ∷ []

counted : (rs : List Advisory) (i d : ℕ) → i < length (git_counts rs) → Counted rs i (get_or (git_counts rs) i d)
counted [] i d lt = absurd (omega arith)
counted (r ∷ rs) zero d lt = record { item = r; its = refl; next = refl; more = refl }
counted (r ∷ rs) (suc i) d lt =
    let c = counted rs i d (omega arith) in
    let k : suc i + 1 ≡ suc (i + 1) = omega arith in
    record {
      item = c.item;
      its = c.its;
      next = c.next ∙ ap (λ (n : ℕ). c.item ∷ drop n (r ∷ rs)) (sym k);
      more = ap (λ (n : ℕ). take n (r ∷ rs)) k ∙ ap (λ (us : List Advisory). r ∷ us) c.more;
    }

pub counted-at : (rs : List Advisory) (counts : List ℕ) (i d : ℕ) → counts ≡ git_counts rs → i < length counts → Counted rs i (get_or counts i d)
counted-at rs counts i d is lt =
    subst (λ (ns : List ℕ). Counted rs i (get_or ns i d)) (sym is) (counted rs i d (subst (λ (ns : List ℕ). i < length ns) is lt))

-- as many as counts
pub as-many : (rs : List Advisory) (counts : List ℕ) → counts ≡ git_counts rs → length rs ≡ length counts
as-many rs counts is = sym (length-map rs (λ (r : Advisory). git_ranges r.affected)) ∙ ap length (sym is)
