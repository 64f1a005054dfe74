-- What is kept of a range for many look-ups (our own).
use Rattle.std.specs.Prelude.{◌≡◌, Bool, true, false, not, if◌then◌else◌, List, [], ◌∷◌, Option, Some, None}
use Rattle.std.specs.List.Sorted.{IsPartitionedBy}
use Rattle.std.specs.Ordering.{is_gt, is_lt}
use Rattle.std.specs.declared.cmp.Ordering.{Ordering}
use Rattle.osv_prim.specs.Ranges.{against, bound_cmp, flag_from, is_limit, is_within_limits, sorted}
use Rattle.osv_prim.specs.declared.bound.Bound.{Bound}
use Rattle.osv_prim.specs.declared.event.EventKind.{EventKind}
use Rattle.osv_prim.specs.declared.event.EventKind.TheVariants.{Introduced, Fixed, LastAffected, Limit}
use Rattle.range_eval.specs.Latest.{acts}
use Rattle.range_eval.specs.declared.compiled.Compiled.{Compiled}

-- the event turns the flag, where it acts
abbrev pub turns_flag : Bool → EventKind → Bool
turns_flag flag Introduced = not flag
turns_flag flag Fixed = flag
turns_flag flag LastAffected = flag
turns_flag flag Limit = false

-- the events that turn the flag one after another
abbrev pub turns : {T : Type 0} → Bool → List (EventKind × Bound T) → List (EventKind × Bound T)
turns flag [] = []
turns flag (e ∷ es) = if turns_flag flag e.0 then e ∷ turns (not flag) es else turns flag es

module _ {T : Type 0} (cmp : T → T → Ordering) where
  abbrev pub greatest : Option (Bound T) → Bound T → Bound T
  greatest None b = b
  greatest (Some c) b = if is_gt (bound_cmp cmp b c) then b else c

  -- the greatest of a limit and of those among these events
  abbrev pub limit_from : Option (Bound T) → List (EventKind × Bound T) → Option (Bound T)
  limit_from limit [] = limit
  limit_from limit (e ∷ es) = if is_limit e.0 then limit_from (Some (greatest limit e.1)) es else limit_from limit es

  -- there is no limit, or the version is before it
  abbrev pub is_before : T → Option (Bound T) → Bool
  is_before v None = true
  is_before v (Some b) = is_lt (against cmp v b)

  -- The turns leave the flag of each version as the sorted events do. None acts on a version on which an
  -- earlier one doesn't. The limit is one for all.
  pub record StandsFor (c : Compiled T) (events : List (EventKind × Bound T)) : Type 0 where
    pub same_flag : (v : T) → flag_from cmp v false c.turns.items ≡ flag_from cmp v false (sorted cmp events)
    pub in_order : (v : T) → IsPartitionedBy (λ e. acts cmp v e.0 e.1) c.turns.items
    pub same_limit : (v : T) → is_before v c.limit ≡ is_within_limits cmp v events
