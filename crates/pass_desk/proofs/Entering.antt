-- The turn in which a caller enters.
use Rattle.std.proofs.Common.{◌≡◌, ℕ, ◌<◌, Bool, false, cond, [], ◌∷◌, refl, sym, ap, subst, ◌∙◌, arith, eqb, ne_eqb}
use Rattle.std.specs.Prelude.{Some, Ok, All}
use Rattle.std.proofs.lemmas.List.Elements.{All-head, All-tail}
use mathlib.Core.List.{IsPrefix}
use Rattle.settings.specs.declared.Settings.{Settings}
use Rattle.turn_lock.specs.declared.note.Note.{Note}
use Rattle.turn_lock.specs.History.{entries_by}
use Rattle.turn_lock.specs.Turn.{Meaning, LockId, PassState, IsTurn}
use Rattle.history.specs.declared.past.Past.{Past}
use Rattle.history.specs.Entries.{History, caller}
use Rattle.book_model.specs.State.{State}
use Rattle.book_model.specs.Steps.{Enrols}
use Rattle.pass_desk.specs.Turns.{AreSound}
use Rattle.pass_desk.specs.Passes.{settings_of, caller_of, HasEntered}

-- a book as its lock reads it
abbrev pub meaning : Meaning State Past Settings
meaning = record { entries = λ (s : State). s.history; owner = caller; caller_count = λ (s : State). s.callers; fixed = λ (s : State). s.settings }

abbrev pub noted_in : State → Note
noted_in s = s.note

-- no entry is by a number that wasn't given
none_own : (n : ℕ) (h : History) → All (λ (e : Past). caller e < n) h → entries_by caller n h ≡ []
none_own n [] a = refl
none_own n (e ∷ h) a =
    let lt : caller e < n = All-head (λ (x : Past). caller x < n) e h a in
    let other : eqb (caller e) n ≡ false = ne_eqb (caller e) n (λ is. absurd (omega (arith, lt, is))) in
    ap (λ (b : Bool). cond b (e ∷ entries_by caller n h) (entries_by caller n h)) other ∙ none_own n h (All-tail (λ (x : Past). caller x < n) e h a)

module _ (me : ℕ) (old new : PassState Past Settings) (turn : IsTurn meaning noted_in (λ s t. Enrols s (Ok me) t × AreSound s t) 0 old new) where
  lock : new.lock ≡ old.lock
  lock = ap (λ (p : PassState Past Settings). p.lock) turn.pass

  seen : new.seen ≡ turn.found.history
  seen = ap (λ (p : PassState Past Settings). p.seen) turn.pass ∙ ap (λ (s : State). s.history) turn.acts.0.2

  none : entries_by caller me turn.found.history ≡ []
  none = subst (λ (n : ℕ). entries_by caller n turn.found.history ≡ []) (sym turn.acts.0.0) (none_own turn.found.callers turn.found.history turn.acts.1.0.given)

  pub entered : HasEntered old (caller_of me 0 0 0 new)
  entered = record {
    lock = ap (λ (l : LockId Settings). Some l) lock;
    settings = ap (λ (l : LockId Settings). settings_of l.fixed) lock;
    begins = subst (λ (h : History). IsPrefix old.seen h) (sym seen) turn.seen;
    own = subst (λ (h : History). entries_by caller me h ≡ []) (sym seen) none;
    alone = refl;
    busy = refl;
    turns = refl;
    outs = refl;
    turned = ap (λ (p : PassState Past Settings). p.last.turned) turn.pass;
  }
