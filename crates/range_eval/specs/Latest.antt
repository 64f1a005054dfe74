-- The last event, in order, that has an effect on a version (our own).
use Rattle.std.specs.Prelude.{◌≡◌, ◌⊎◌, Bool, true, false, ◌&&◌, if◌then◌else◌, List, [], ◌∷◌, Option, Some, None}
use Rattle.std.specs.Ordering.{is_ge, is_gt}
use Rattle.std.specs.declared.cmp.Ordering.{Ordering}
use Rattle.osv_prim.specs.Ranges.{against, event_cmp}
use Rattle.osv_prim.specs.declared.bound.Bound.{Bound}
use Rattle.osv_prim.specs.declared.event.EventKind.{EventKind}
use Rattle.osv_prim.specs.declared.event.EventKind.TheVariants.{Introduced, Fixed, LastAffected, Limit}

abbrev pub IsAmong : {X : Type 0} → X → List X → Type 0
IsAmong x [] = ⊥
IsAmong x (y ∷ ys) = (x ≡ y) ⊎ IsAmong x ys

abbrev pub introduces : EventKind → Bool
introduces Introduced = true
introduces Fixed = false
introduces LastAffected = false
introduces Limit = false

-- there is a latest event, and it is an introduction
abbrev pub is_introduced : {T : Type 0} → Option (EventKind × Bound T) → Bool
is_introduced None = false
is_introduced (Some e) = introduces e.0

module _ {T : Type 0} (cmp : T → T → Ordering) where
  -- the event is after the other, if there is another
  abbrev pub is_after : EventKind × Bound T → Option (EventKind × Bound T) → Bool
  is_after e None = true
  is_after e (Some l) = is_gt (event_cmp cmp e l)

  -- the event sets or clears the flag of the version
  abbrev pub acts : T → EventKind → Bound T → Bool
  acts v Introduced b = is_ge (against cmp v b)
  acts v Fixed b = is_ge (against cmp v b)
  acts v LastAffected b = is_gt (against cmp v b)
  acts v Limit b = false

  -- the later of the two, where the event acts
  abbrev pub later : T → EventKind × Bound T → Option (EventKind × Bound T) → Option (EventKind × Bound T)
  later v e m = if acts v e.0 e.1 && is_after e m then Some e else m

  -- No event acts, or this one does and none that acts is after it.
  abbrev pub IsLatest : T → List (EventKind × Bound T) → Option (EventKind × Bound T) → Type 0
  IsLatest v es None = (e : EventKind × Bound T) → IsAmong e es → acts v e.0 e.1 ≡ false
  IsLatest v es (Some l) =
      IsAmong l es × (acts v l.0 l.1 ≡ true) × ((e : EventKind × Bound T) → IsAmong e es → acts v e.0 e.1 ≡ true → is_gt (event_cmp cmp e l) ≡ false)
