-- The steps of one turn, put together.
use Rattle.std.proofs.Common.{◌≡◌, ℕ, ◌+◌, ◌<◌, ◌≤◌, [], ◌∷◌, cond, Option, Some, None, refl, sym, ap, ◌∙◌, subst, arith, eqb, eq-eqb, ne_eqb}
use mathlib.Core.Logic.{dite}
use native.Mathlib.Decide.{ℕ_discrete}
use Rattle.atomic_table.specs.Seated.{TableId}
use Rattle.atomic_table.specs.Table.{Me}
use mathlib.Core.List.{IsPrefix}
use Rattle.turn_lock.specs.History.{GrownBy, GivesAtMostOne, entries_by, saturating_next}
use Rattle.turn_lock.specs.Turn.{Meaning, IsTurn, PassState, known_callers}
use Rattle.turn_lock.specs.Rule.{IsServed, queued, served, ended}
use Rattle.turn_lock.specs.declared.view.View.{View}
use Rattle.turn_lock.specs.declared.note.Note.{Note}
use Rattle.turn_lock.specs.declared.note.Last.{Last}
use Rattle.turn_lock.proofs.Slot.{held_is}

pub known_below : (number : Option ℕ) (by n : ℕ) → ((k : ℕ) → number ≡ Some k → k < n) → known_callers number by ≤ n
known_below None by n h = omega arith
known_below (Some k) by n h = dite (ℕ_discrete k by)
    (λ e. let lt = h k refl in let b : cond (eqb k by) (by + 1) 0 ≡ by + 1 = ap (λ x. cond x (by + 1) 0) (eq-eqb k by e) in omega arith)
    (λ e. let b : cond (eqb k by) (by + 1) 0 ≡ 0 = ap (λ x. cond x (by + 1) 0) (ne_eqb k by e) in omega arith)

module _ {B E F : Type 0} (m : Meaning B E F) (v : View E F) (ticket : ℕ) (one two : Me (Option B) (View E F)) (s : B) (taken : one ≡ (queued v ticket, [])) (turn : IsServed m one.0 two) (held : two.1 ≡ (0, Some s) ∷ []) where
  here : turn.value ≡ s
  here = held_is two.1 turn.value s (ap (λ x. x.1) turn.seat) held

  pub view : two.0 ≡ served m (queued v ticket) s
  view = ap (λ x. x.0) turn.seat ∙ (λ i. served m (taken i).0 (here i))

  pub begins : IsPrefix v.seen (m.entries s)
  begins = subst (λ (p : View E F × B). IsPrefix p.0.seen (m.entries p.1)) (λ i. ((taken i).0, here i)) turn.begins

  pub fixed : (f : F) → v.fixed ≡ Some f → m.fixed s ≡ f
  fixed = subst (λ (p : View E F × B). (f : F) → p.0.fixed ≡ Some f → m.fixed p.1 ≡ f) (λ i. ((taken i).0, here i)) turn.fixed

  pub number : (k : ℕ) → v.number ≡ Some k → (k < m.caller_count s) × (entries_by m.owner k (m.entries s) ≡ entries_by m.owner k v.seen)
  number = subst (λ (p : View E F × B). (k : ℕ) → p.0.number ≡ Some k → (k < m.caller_count p.1) × (entries_by m.owner k (m.entries p.1) ≡ entries_by m.owner k p.0.seen)) (λ i. ((taken i).0, here i)) turn.number

  pub counted : (by : ℕ) → known_callers v.number by ≤ m.caller_count s
  counted by = known_below v.number by (m.caller_count s) (λ k h. (number k h).0)

  pub turned : (noted : B → Note) (does : B → B → Type 0) (by : ℕ) (old : PassState E F) (id id' : TableId) (t : B) (last last' : Last) (three four : Me (Option B) (View E F)) (f : F)
      → record { lock = record { table = id; fixed = v.fixed }; seen = v.seen; number = v.number; last = last } ≡ old
      → v.fixed ≡ Some f → three.0 ≡ two.0 → four.0 ≡ ended m three.0 t → id' ≡ id
      → does s t → GrownBy m.owner by (m.entries s) (m.entries t) → GivesAtMostOne (m.caller_count s) (m.caller_count t) → m.fixed t ≡ m.fixed s
      → last' ≡ record { turned = saturating_next last.turned; found = noted s; left = noted t }
      → IsTurn m noted does by old record { lock = record { table = id'; fixed = four.0.fixed }; seen = four.0.seen; number = four.0.number; last = last' }
  turned noted does by old id id' t last last' three four f is has took ends ids acts grown counts same notes =
      let q : four.0 ≡ ended m (served m (queued v ticket) s) t = ends ∙ ap (λ x. ended m x t) (took ∙ view) in
      subst (λ (o : PassState E F). IsTurn m noted does by o record { lock = record { table = id'; fixed = four.0.fixed }; seen = four.0.seen; number = four.0.number; last = last' }) is record {
        found = s;
        left = t;
        acts = acts;
        seen = begins;
        fixed = has ∙ ap (λ (x : F). Some x) (sym (fixed f has));
        own = λ k h. (number k h).1;
        counted = counted by;
        grown = grown;
        counts = counts;
        same = same;
        pass = λ i. record { lock = record { table = ids i; fixed = (q i).fixed }; seen = (q i).seen; number = (q i).number; last = notes i };
      }
