-- Where the advisories of a base are, as far as they were merged with others.
use Rattle.std.proofs.Common.{◌≡◌, List, [], ◌∷◌, ◌++◌, map, refl, sym, ap, subst, ◌∙◌, append_assoc}
use Rattle.std.specs.Prelude.{Option}
use Rattle.std.specs.Option.{option_to_list}
use Rattle.osv_record.specs.Advisories.{Advisory}
use Rattle.osv_record.specs.Imports as counting
use Rattle.osv_record.specs.Imports.{records_from}
use Rattle.history.specs.declared.past.Past.{Past}
use Rattle.history.specs.Prefixes.{records, advisories}
use Rattle.record_moves.specs.Moved.{IsMoved}
use Rattle.record_moves.specs.declared.moves.Moves.{Moves}
use Rattle.impact_job.specs.Order.{Ascend, IsSplit}
use Rattle.impact_job.proofs.Merging.{Merging, merging-more}
use Rattle.impact_job.proofs.Prefixes.{planned, kept-ascend}

pub record MovedSoFar (moves : Moves) (base rest later whole : List Advisory) : Type 0 where
  -- those of the base that were gone through, and those that they and others came to
  pub front : List Advisory
  pub done : List Advisory
  pub base_is : base ≡ front ++ rest
  pub moved : IsMoved moves front done
  pub merging : Merging done rest later whole

-- one that changed more
pub moved-more : (moves : Moves) (base rest below : List Advisory) (found : Option Advisory) (above : List Advisory) (y : Advisory) (ys whole front done : List Advisory) → base ≡ front ++ rest
    → Merging done rest (y ∷ ys) whole → IsSplit y.id rest below found above → IsMoved moves ((front ++ below) ++ option_to_list found) ((done ++ below) ++ y ∷ []) → MovedSoFar moves base above ys whole
moved-more moves base rest below found above y ys whole front done is m s moved =
    record {
      front = (front ++ below) ++ option_to_list found;
      done = (done ++ below) ++ y ∷ [];
      base_is =
          is ∙ ap (λ (xs : List Advisory). front ++ xs) s.whole ∙ sym (append_assoc front below (option_to_list found ++ above)) ∙ sym (append_assoc (front ++ below) (option_to_list found) above);
      moved = moved;
      merging = merging-more done rest below found above y ys whole m s;
    }

-- none is left that changed, and those behind stay
pub moved-whole : (moves : Moves) (base rest whole front done : List Advisory) → base ≡ front ++ rest → Merging done rest [] whole → IsMoved moves (front ++ rest) (done ++ rest) → IsMoved moves base whole
moved-whole moves base rest whole front done is m moved =
    subst (λ (xs : List Advisory). IsMoved moves xs whole) (sym is) (subst (λ (xs : List Advisory). IsMoved moves (front ++ rest) xs) m.so_far moved)

-- the same said of lists that are equal
pub moved-at : {A B : Type 0} (see : A → Advisory) (at : B → Advisory) (xs base : List A) (ys changed : List B) (moves : Moves) → xs ≡ base → ys ≡ changed
    → (Ascend (map see xs) → Ascend (map at ys) → IsMoved moves (map see xs) (records_from (map see xs) (map at ys)))
    → Ascend (map see base) → Ascend (map at changed) → IsMoved moves (map see base) (records_from (map see base) (map at changed))
moved-at {A = A} {B = B} see at xs base ys changed moves e f m =
    subst (λ (us : List A). Ascend (map see us) → Ascend (map at changed) → IsMoved moves (map see us) (records_from (map see us) (map at changed))) e
    (subst (λ (us : List B). Ascend (map see xs) → Ascend (map at us) → IsMoved moves (map see xs) (records_from (map see xs) (map at us))) f m)

-- those that count after the first imports, among those that count after all
pub moved-planned : (b came p : List Past) (base added changed : List Advisory) (moves : Moves) → p ≡ b ++ came → base ≡ records b → added ≡ advisories came → changed ≡ counting.records added
    → (Ascend base → Ascend changed → IsMoved moves base (records_from base changed)) → IsMoved moves (records b) (records p)
moved-planned b came p base added changed moves whole kept came_is last m =
    let later : changed ≡ records came = last ∙ ap (λ (xs : List Advisory). counting.records xs) came_is in
    let moved = m (subst (λ (xs : List Advisory). Ascend xs) (sym kept) (kept-ascend b)) (subst (λ (xs : List Advisory). Ascend xs) (sym later) (kept-ascend came)) in
    subst (λ (xs : List Advisory). IsMoved moves xs (records p)) kept
    (subst (λ (xs : List Advisory). IsMoved moves base xs) (planned b came p base added changed (records_from base changed) whole kept came_is last (λ up down. refl)) moved)
