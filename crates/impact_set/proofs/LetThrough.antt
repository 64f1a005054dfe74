-- Where limits are given and none is `*`, they let the commits through that stand before one.
use Rattle.std.proofs.Common.{◌≡◌, ℕ, inl, inr, Bool, true, false, List, length, get_or, sym, ◌∙◌}
use Rattle.std.specs.List.{list_all}
use Rattle.std.proofs.lemmas.Bool.{cases_Bool, and_parts, and_from, true≢false, false_from_ne_true}
use Rattle.osv_prim.specs.declared.oid.CommitRow.{CommitRow}
use Rattle.osv_prim.specs.declared.event.Event.{Event}
use Rattle.osv_prim.specs.declared.event.EventKind.TheVariants.{Limit}
use Rattle.osv_prim.specs.Graphs.{id_at, is_read, has_limit, names_all, IsLegal, IsBeforeLimit}
use Rattle.git_range.specs.Affected.{is_within_limits}
use Rattle.git_range.specs.Rows.{AreRows}
use Rattle.git_range.proofs.Affecting.{within_by, by_within}
use Rattle.impact_set.specs.Standing.{AreBefore, lets_row_through}

module _ (graph : List CommitRow) (legal : IsLegal graph) (events : List Event) (read : list_all is_read events ≡ true) (limited : has_limit events ≡ true) (bound : names_all Limit events ≡ false) where
  through-is : (n : ℕ) → lets_row_through events graph n ≡ true → IsBeforeLimit graph events (id_at graph n)
  through-is n h =
      elim (within_by graph legal events (id_at graph n) (and_parts (list_all is_read events) (is_within_limits graph events (id_at graph n)) h).1) [
        | inl none ↦ absurd (true≢false (sym limited ∙ none))
        | inr (inl all) ↦ absurd (true≢false (sym all ∙ bound))
        | inr (inr before) ↦ before
      ]

  is-through : (n : ℕ) → IsBeforeLimit graph events (id_at graph n) → lets_row_through events graph n ≡ true
  is-through n before = and_from (list_all is_read events) (is_within_limits graph events (id_at graph n)) read (by_within graph legal events (id_at graph n) (inr (inr before)))

  pub through-before : (marks : List Bool) → AreRows (length graph) marks (lets_row_through events graph) → AreBefore events graph marks
  through-before marks are =
      record {
        size = are.size;
        sound = λ n lt h. through-is n (sym (are.each n lt) ∙ h);
        complete = λ n lt before. are.each n lt ∙ is-through n before;
      }

  pub before-through : (marks : List Bool) → AreBefore events graph marks → AreRows (length graph) marks (lets_row_through events graph)
  before-through marks are =
      record {
        size = are.size;
        each = λ n lt.
            elim (cases_Bool (get_or marks n false)) [
              | inl mark ↦ mark ∙ sym (is-through n (are.sound n lt mark))
              | inr free ↦ free ∙ sym (false_from_ne_true (lets_row_through events graph n) (λ h. true≢false (sym (are.complete n lt (through-is n h)) ∙ free)))
            ];
      }
