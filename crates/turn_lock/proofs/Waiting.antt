-- The opening state has the rule, and it is kept while a pass takes a ticket and waits for its turn.
use Rattle.std.proofs.Common.{◌≡◌, ℕ, zero, suc, ◌+◌, ◌<◌, List, [], ◌∷◌, length, set, get_or, Option, Some, None, false, refl, sym, ap, ◌∙◌, subst, inl, inr, ⊎_elim, arith, eqb, append-nil}
use Rattle.std.specs.Prelude.{All}
use mathlib.Core.Logic.{dite}
use mathlib.Core.Option.{some, none, some-ne-none, some-injective}
use native.Mathlib.Decide.{ℕ_discrete}
use lib.ListN.{get_elem?}
use prog.Atomic.{either}
use Rattle.atomic_table.specs.Table.{Me, Act, step, keeps, takes, Valid, stepped, carried_after, opening, Allows}
use Rattle.atomic_table.proofs.Lists.{exchanged, set_again}
use mathlib.Core.List.{IsPrefix}
use Rattle.turn_lock.specs.History.{entries_by}
use Rattle.turn_lock.specs.Turn.{Meaning}
use Rattle.turn_lock.specs.Rule.{lock_words, ticket_count, ViewFits, NoneClash, IsHome, IsOut, LockRule, first_view, queued, served, TakesTicket, ReadsServing}
use Rattle.turn_lock.specs.declared.view.View.{View}
use Rattle.turn_lock.proofs.Views.{set_at, same_at, each_set, some_is, some_is_none, off, waiting-set, apart_set, away, keeps_ticket, keeps_number}
use Rattle.turn_lock.proofs.Slot.{word, same_words, slot_kept, unmoved}

module _ {B E F : Type 0} (m : Meaning B E F) (key : F) where
  pub begins : (b : B) (c : ℕ) → c ≡ length (m.entries b) → key ≡ m.fixed b → All (λ e. m.owner e < m.caller_count b) (m.entries b) → LockRule m key (opening (lock_words 0 0 c (m.caller_count b) 0) (Some b ∷ []) (first_view m b))
  begins b c long is below = record {
    ticket = 0;
    serving = 0;
    callers = m.caller_count b;
    sleepers = 0;
    log = m.entries b;
    words = ap (λ n. lock_words 0 0 n (m.caller_count b) 0) long;
    bound = omega arith;
    queue = omega arith;
    fits = each_one;
    apart = alone;
    below = below;
    slot = inl (bare, b, refl, refl, refl, sym is);
  }
    where
      v : View E F
      v = first_view m b

      at_zero : (Q : View E F → Type 0) → Q v → (i : ℕ) (u : View E F) → get_elem? (v ∷ []) i ≡ some u → Q u
      at_zero Q q zero u e = subst Q (some-injective v u e) q
      at_zero Q q (suc i) u e = absurd (some-ne-none u (sym e))

      each_one : (i : ℕ) (u : View E F) → get_elem? (v ∷ []) i ≡ some u → ViewFits m.owner key (m.entries b) 0 0 (m.caller_count b) u
      each_one = at_zero (ViewFits m.owner key (m.entries b) 0 0 (m.caller_count b)) record {
        seen = ([], append-nil (m.entries b));
        fixed = λ f h. sym (some_is (m.fixed b) f h) ∙ sym is;
        joined_seen = (_, refl);
        place = λ t h. some_is_none None t refl h;
        turn = λ h. off false refl h;
        number = λ n h. some_is_none None n refl h;
      }

      bare : (i : ℕ) (u : View E F) → get_elem? (v ∷ []) i ≡ some u → u.has_turn ≡ false
      bare = at_zero (λ u. u.has_turn ≡ false) refl

      alone : NoneClash (v ∷ [])
      alone zero zero u x e f same = refl
      alone zero (suc j) u x e f same = absurd (some-ne-none x (sym f))
      alone (suc i) j u x e f same = absurd (some-ne-none u (sym e))

  pub takes_ticket : (n id : ℕ) (me : Me (Option B) (View E F)) (old new : ℕ) (said : _) → me.0.ticket ≡ None → me.0.has_turn ≡ false → old < 18446744073709551615 → new ≡ old + 1
      → Allows (LockRule m key) n id me 0 (λ x. either (eqb x old) new x) (TakesTicket (step n 0 old new said) me)
  takes_ticket n id me old new said none-yet waits few is s k wide at lt =
      let w = queued me.0 old in
      let F' : ℕ → Type 0 = λ x. (w : View E F) × (a : Act (Option B)) × Valid s.homes me.1 a × LockRule m key (stepped s 0 x id me.1 w a) × TakesTicket (step n 0 old new said) me (get_or s.words 0 0) (w, carried_after me.1 a) in
      exchanged (get_or s.words 0 0) old new F'
      (λ hit.
      let here : k.ticket ≡ old = sym (word m key s k 0) ∙ hit in
      let some-fit = k.fits id me.0 at in (
        w,
        keeps,
        tt,
        record {
          ticket = new;
          serving = k.serving;
          callers = k.callers;
          sleepers = k.sleepers;
          log = k.log;
          words = ap (λ ws. set ws 0 new) k.words;
          bound = omega arith;
          queue = omega (arith, k.queue, waiting-set s.views id me.0 w at, ap ticket_count none-yet);
          fits = each_set (λ _ (u : View E F). ViewFits m.owner key k.log new k.serving k.callers u) s.views id w
              (λ j u _ e. let f = k.fits j u e in record {
                seen = f.seen;
                fixed = f.fixed;
                joined_seen = f.joined_seen;
                place = λ t h. ((f.place t h).0, omega (arith, (f.place t h).1));
                turn = f.turn;
                number = f.number;
              })
              record {
                seen = some-fit.seen;
                fixed = some-fit.fixed;
                joined_seen = (_, refl);
                place = λ t h. let q : old ≡ t = some_is old t h in (omega (arith, k.queue), omega arith);
                turn = λ h. off false refl h;
                number = some-fit.number;
              };
          apart = apart_set s.views id w k.apart (away s.views id w
              (λ t h j u _ e f. let q : old ≡ t = some_is old t h in let p = ((k.fits j u e).place t f).1 in omega (arith))
              (keeps_number s.views id me.0 w k.apart at refl));
          below = k.below;
          slot = slot_kept m key s k id me.0 w (set s.words 0 new) at waits refl;
        },
        ((λ _. refl), (λ ne. absurd (ne hit))),
      ))
      (λ miss. (me.0, keeps, tt, unmoved m key s k id me 0 at (omega arith), ((λ e. absurd (miss e)), (λ _. refl))))

  pub reads_serving : (n id : ℕ) (me : Me (Option B) (View E F)) (t : ℕ) (said : _) → me.1 ≡ [] → me.0.ticket ≡ Some t → me.0.has_turn ≡ false
      → Allows (LockRule m key) n id me 8 (λ x. x) (ReadsServing m (step n 8 0 0 said) me)
  reads_serving n id me t said bare has waits s k wide at lt =
      dite (ℕ_discrete (get_or s.words 8 0) t)
      (λ hit.
      let mine : k.serving ≡ t = sym (word m key s k 8) ∙ hit in
      let my_fit = k.fits id me.0 at in
      ⊎_elim
      (λ (h : IsHome m key k.log k.callers s).
      let b = h.1 in
      let w = served m me.0 b in (
        w,
        takes 0 (Some b),
        ap (λ hs. get_elem? hs 0) h.2,
        record {
          ticket = k.ticket;
          serving = k.serving;
          callers = k.callers;
          sleepers = k.sleepers;
          log = k.log;
          words = same_words m key s k 8 (omega arith) ∙ k.words;
          bound = k.bound;
          queue = omega (arith, k.queue, waiting-set s.views id me.0 w at);
          fits = each_set (λ _ (u : View E F). ViewFits m.owner key k.log k.ticket k.serving k.callers u) s.views id w
              (λ j u _ e. k.fits j u e)
              record {
                seen = ([], append-nil (m.entries b) ∙ h.3);
                fixed = my_fit.fixed;
                joined_seen = (_, refl);
                place = my_fit.place;
                turn = λ _. has ∙ ap (λ (x : ℕ). Some x) (sym mine);
                number = λ x e. ((my_fit.number x e).0, ap (entries_by m.owner x) (sym h.3));
              };
          apart = apart_set s.views id w k.apart (away s.views id w (keeps_ticket s.views id me.0 w k.apart at refl) (keeps_number s.views id me.0 w k.apart at refl));
          below = k.below;
          slot = inr (id, w, set_at s.views id me.0 w at, refl, ap (λ hs. set hs 0 none) h.2, h.3, h.4);
        },
        λ t' has'.
            let same : t ≡ t' = some_is t t' (sym has ∙ has') in (
              (λ _. record {
                value = b;
                seat = λ i. (w, (0, Some b) ∷ bare i);
                begins = subst (IsPrefix me.0.seen) (sym h.3) my_fit.seen;
                fixed = λ f e. h.5 ∙ sym (my_fit.fixed f e);
                number = λ x e. (subst (λ c. x < c) (sym h.4) (my_fit.number x e).0, ap (entries_by m.owner x) h.3 ∙ (my_fit.number x e).1);
              }),
              (λ ne. absurd (ne (hit ∙ same))),
            ),
      ))
      (λ (o : IsOut k.log k.callers s).
      let one = (k.fits o.0 o.1 o.2).turn o.3 in
      let two : me.0.ticket ≡ Some k.serving = has ∙ ap (λ (x : ℕ). Some x) (sym mine) in
      let same : o.1 ≡ me.0 = same_at s.views o.0 id o.1 me.0 o.2 at (k.apart o.0 id o.1 me.0 o.2 at (inl (k.serving, one, two))) in
      off me.0.has_turn waits (ap (λ (x : View E F). x.has_turn) (sym same) ∙ o.3))
      k.slot)
      (λ miss. (me.0, keeps, tt, unmoved m key s k id me 8 at (omega arith), λ t' has'. let same : t ≡ t' = some_is t t' (sym has ∙ has') in ((λ e. absurd (miss (e ∙ sym same))), (λ _. refl))))

  -- a pass goes to sleep, or wakes
  pub counts_sleepers : (n id : ℕ) (me : Me (Option B) (View E F)) (f : ℕ → ℕ) → Allows (LockRule m key) n id me 18 f (λ _ new. new ≡ me)
  counts_sleepers n id me f s k wide at lt =
      let x = f (get_or s.words 18 0) in
      let made : LockRule m key record { words = set s.words 18 x; homes = s.homes; views = s.views } = record {
        ticket = k.ticket;
        serving = k.serving;
        callers = k.callers;
        sleepers = x;
        log = k.log;
        words = ap (λ ws. set ws 18 x) k.words;
        bound = k.bound;
        queue = k.queue;
        fits = k.fits;
        apart = k.apart;
        below = k.below;
        slot = k.slot;
      } in
      (me.0, keeps, tt, subst (λ vs. LockRule m key record { words = set s.words 18 x; homes = s.homes; views = vs }) (sym (set_again s.views id me.0 at)) made, refl)

pub starts : {B E F : Type 0} (m : Meaning B E F) (b k : B) (l c : ℕ) (xs : List (Option B)) → k ≡ b → l ≡ length (m.entries b) → c ≡ m.caller_count b → xs ≡ Some b ∷ [] → All (λ e. m.owner e < m.caller_count b) (m.entries b)
    → LockRule m (m.fixed k) (opening (lock_words 0 0 l c 0) xs (first_view m k))
starts {B} m b k l c xs same long caller_count held below =
    let P : B × ℕ × List (Option B) → Type 0 = λ p. LockRule m (m.fixed p.0) (opening (lock_words 0 0 l p.1 0) p.2 (first_view m p.0)) in
    subst P (λ i. (sym same i, sym caller_count i, sym held i)) (begins m (m.fixed b) b l long refl below)
