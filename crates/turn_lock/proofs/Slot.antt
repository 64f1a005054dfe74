-- What holds of the slot and of the words at every step.
use Rattle.std.proofs.Common.{◌≡◌, ◌≢◌, ◌⊎◌, ℕ, ◌<◌, List, [], ◌∷◌, length, set, get_or, Option, Some, None, true, false, sym, ap, ◌∙◌, subst, inl, inr, ⊎_elim}
use mathlib.Core.Option.{some, none}
use lib.ListN.{get_elem?}
use lib.Seq.{set-get_or}
use Rattle.atomic_table.specs.Table.{State, Me, keeps, stepped}
use Rattle.atomic_table.proofs.Lists.{set_again}
use Rattle.turn_lock.specs.Turn.{Meaning}
use Rattle.turn_lock.specs.Rule.{lock_words, IsHome, IsOut, LockRule}
use Rattle.turn_lock.specs.declared.view.View.{View}
use Rattle.turn_lock.proofs.Views.{set_off, same_at, each_set, some_is, not_true, off}

abbrev pub head_value : {B : Type 0} → List (ℕ × Option B) → Option B
head_value [] = None
head_value (z ∷ zs) = z.1

pub held_is : {B : Type 0} (l : List (ℕ × Option B)) (x y : B) → l ≡ (0, Some x) ∷ [] → l ≡ (0, Some y) ∷ [] → x ≡ y
held_is l x y e f = some_is x y (sym (ap head_value e) ∙ ap head_value f)

module _ {B E F : Type 0} (m : Meaning B E F) (key : F) where
  -- the words
  pub word : (s : State (Option B) (View E F)) (k : LockRule m key s) (i : ℕ) → get_or s.words i 0 ≡ get_or (lock_words k.ticket k.serving (length k.log) k.callers k.sleepers) i 0
  word s k i = ap (λ ws. get_or ws i 0) k.words

  pub same_words : (s : State (Option B) (View E F)) (k : LockRule m key s) (i : ℕ) → i < 19 → set s.words i (get_or s.words i 0) ≡ s.words
  same_words s k i lt = set-get_or s.words i 0

  -- only the pass with the turn is out
  pub out_is : (s : State (Option B) (View E F)) (k : LockRule m key s) (id : ℕ) (v : View E F) → get_elem? s.views id ≡ some v → v.has_turn ≡ true
      → (s.homes ≡ none ∷ []) × (v.seen ≡ k.log) × (v.callers ≡ k.callers)
  out_is s k id v at turn =
      ⊎_elim
      (λ (h : IsHome m key k.log k.callers s). off v.has_turn (h.0 id v at) turn)
      (λ (o : IsOut k.log k.callers s).
      let i = o.0 in let u = o.1 in
      let one = (k.fits i u o.2).turn o.3 in
      let two = (k.fits id v at).turn turn in
      let same : u ≡ v = same_at s.views i id u v o.2 at (k.apart i id u v o.2 at (inl (k.serving, one, two))) in
      (o.4, ap (λ (x : View E F). x.seen) (sym same) ∙ o.5, ap (λ (x : View E F). x.callers) (sym same) ∙ o.6))
      k.slot

  -- no other pass has the turn
  pub others_wait : (s : State (Option B) (View E F)) (k : LockRule m key s) (id : ℕ) (v : View E F) → get_elem? s.views id ≡ some v → v.has_turn ≡ true → (j : ℕ) (u : View E F) → j ≢ id → get_elem? s.views j ≡ some u → u.has_turn ≡ false
  others_wait s k id v at turn j u ne e = not_true u.has_turn (λ t. ne (k.apart j id u v e at (inl (k.serving, (k.fits j u e).turn t, (k.fits id v at).turn turn))))

  -- while a pass waits, the slot is as it is for all others
  pub slot_kept : (s : State (Option B) (View E F)) (k : LockRule m key s) (id : ℕ) (v w : View E F) (ws : List ℕ) → get_elem? s.views id ≡ some v → v.has_turn ≡ false → w.has_turn ≡ false
      → IsHome m key k.log k.callers record { words = ws; homes = s.homes; views = set s.views id w } ⊎ IsOut k.log k.callers record { words = ws; homes = s.homes; views = set s.views id w }
  slot_kept s k id v w ws at was is =
      ⊎_elim
      (λ (h : IsHome m key k.log k.callers s). inl (each_set (λ _ (u : View E F). u.has_turn ≡ false) s.views id w (λ j u _ e. h.0 j u e) is, h.1, h.2, h.3, h.4, h.5))
      (λ (o : IsOut k.log k.callers s).
      let ne : o.0 ≢ id = λ e. off v.has_turn was (ap (λ (x : View E F). x.has_turn) (sym (same_at s.views o.0 id o.1 v o.2 at e)) ∙ o.3) in
      inr (o.0, o.1, set_off s.views id o.0 w ne ∙ o.2, o.3, o.4, o.5, o.6))
      k.slot

  -- a load that changes no view
  pub unmoved : (s : State (Option B) (View E F)) (k : LockRule m key s) (id : ℕ) (me : Me (Option B) (View E F)) (i : ℕ) → get_elem? s.views id ≡ some me.0 → i < 19 → LockRule m key (stepped s i (get_or s.words i 0) id me.1 me.0 keeps)
  unmoved s k id me i at lt = subst (LockRule m key) (λ j. record { words = sym (same_words s k i lt) j; homes = s.homes; views = sym (set_again s.views id me.0 at) j }) k
