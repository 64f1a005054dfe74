-- The steps that end a turn keep the rule.
use Rattle.std.proofs.Common.{◌≡◌, ◌≢◌, ◌⊎◌, ℕ, suc, ◌+◌, ◌%◌, ◌^◌, ◌<◌, ◌≤◌, List, [], ◌∷◌, ◌++◌, length, set, get_or, cond, Option, Some, None, true, false, refl, sym, ap, ◌∙◌, subst, inl, inr, ⊎_elim, arith, ltb, lt-ltb, le-ltb, append-nil}
use Rattle.std.specs.Prelude.{All}
use Rattle.std.proofs.Math.Nat.{mod-eq_of_lt}
use Rattle.std.proofs.lemmas.List.Elements.{All-append}
use mathlib.Core.Logic.{dite}
use native.Mathlib.Decide.{dec_le}
use Rattle.atomic_table.specs.Table.{Me, step, keeps, gives, put_back, Allows}
use mathlib.Core.List.{IsPrefix}
use Rattle.turn_lock.specs.History.{GivesAtMostOne, entries_by}
use Rattle.turn_lock.specs.Turn.{Meaning, number_after}
use Rattle.turn_lock.specs.Rule.{lock_words, ticket_count, ViewFits, LockRule, with_seen, with_callers, without_turn, StoresLength, StoresCallers, RaisesServing, MayLeave}
use Rattle.turn_lock.specs.declared.view.View.{View}
use Rattle.turn_lock.proofs.Views.{set_at, each_set, some_is, some_is_none, off, waiting-set, apart_set, away, keeps_ticket, keeps_number, none_ticket, same_numbers, prefix_more}
use Rattle.turn_lock.proofs.Slot.{held_is, word, out_is, others_wait}

module _ {B E F : Type 0} (m : Meaning B E F) (key : F) where
  -- the turn's entries come into the history
  pub adds : (n id : ℕ) (me : Me (Option B) (View E F)) (b : B) (by c : ℕ) (fresh : List E) (said : _) → me.1 ≡ (0, Some b) ∷ [] → me.0.has_turn ≡ true
      → me.0.seen ++ fresh ≡ m.entries b → All (λ e. m.owner e ≡ by) fresh → (me.0.number ≡ Some by) ⊎ (fresh ≡ []) → c ≡ length (m.entries b)
      → Allows (LockRule m key) n id me 16 (λ _. c) (λ _. StoresLength m (step n 16 c 0 said) me c)
  adds n id me b by c fresh said holds turn grown all mine long s k wide at lt =
      let o = out_is m key s k id me.0 at turn in
      let my_fit = k.fits id me.0 at in
      let log = m.entries b in
      let is : k.log ++ fresh ≡ log = ap (λ l. l ++ fresh) (sym o.1) ∙ grown in
      let w = with_seen me.0 log in (
        w,
        keeps,
        tt,
        record {
          ticket = k.ticket;
          serving = k.serving;
          callers = k.callers;
          sleepers = k.sleepers;
          log = log;
          words = ap (λ ws. set ws 16 c) k.words ∙ ap (λ x. lock_words k.ticket k.serving x k.callers k.sleepers) long;
          bound = k.bound;
          queue = omega (arith, k.queue, waiting-set s.views id me.0 w at);
          fits = each_set (λ _ (u : View E F). ViewFits m.owner key log k.ticket k.serving k.callers u) s.views id w
              (λ j u ne e. let f = k.fits j u e in record {
                seen = subst (IsPrefix u.seen) is (prefix_more u.seen k.log fresh f.seen);
                fixed = f.fixed;
                joined_seen = subst (IsPrefix u.joined_seen) is (prefix_more u.joined_seen k.log fresh f.joined_seen);
                place = f.place;
                turn = f.turn;
                number = λ x h. ((f.number x h).0, ap (entries_by m.owner x) (sym is) ∙ others x k.log (λ q. ne (k.apart j id u me.0 e at (inr (x, h, q)))) ∙ (f.number x h).1);
              })
              record {
                seen = ([], append-nil log);
                fixed = my_fit.fixed;
                joined_seen = (_, refl);
                place = my_fit.place;
                turn = my_fit.turn;
                number = λ x h. ((my_fit.number x h).0, refl);
              };
          apart = apart_set s.views id w k.apart (away s.views id w (keeps_ticket s.views id me.0 w k.apart at refl) (keeps_number s.views id me.0 w k.apart at refl));
          below = subst (All (λ e. m.owner e < k.callers)) is (All-append (λ e. m.owner e < k.callers) k.log fresh k.below (new_below k.callers (λ q. (my_fit.number by q).0)));
          slot = inr (id, w, set_at s.views id me.0 w at, turn, o.0, refl, o.2);
        },
        λ b' holds'. let same : b ≡ b' = held_is me.1 b b' holds holds' in ap (λ (x : B). (with_seen me.0 (m.entries x), me.1)) same,
      )
    where
      others : (x : ℕ) (log : List E) → ¬ (me.0.number ≡ Some x) → entries_by m.owner x (log ++ fresh) ≡ entries_by m.owner x log
      others x log not = ⊎_elim
          (λ (q : me.0.number ≡ Some by). same_numbers m.owner x by log fresh all (λ (e : x ≡ by). not (q ∙ ap (λ (y : ℕ). Some y) (sym e))))
          (λ (q : fresh ≡ []). ap (λ l. entries_by m.owner x (log ++ l)) q ∙ ap (entries_by m.owner x) (append-nil log))
          mine

      new_below : (callers : ℕ) → (me.0.number ≡ Some by → by < callers) → All (λ e. m.owner e < callers) fresh
      new_below callers fit = ⊎_elim
          (λ (q : me.0.number ≡ Some by). λ i d h. subst (λ y. y < callers) (sym (all i d h)) (fit q))
          (λ (q : fresh ≡ []). λ i d h. absurd (let z : length fresh ≡ 0 = ap (λ (l : List E). length l) q in omega arith))
          mine

  ltb_self : (x : ℕ) → ltb x x ≡ false
  ltb_self x = le-ltb x x (omega arith)

  -- the count of numbers is shown, and a new number belongs to the pass
  pub numbers : (n id : ℕ) (me : Me (Option B) (View E F)) (c : ℕ) (said : _) → me.0.has_turn ≡ true → GivesAtMostOne me.0.callers c
      → Allows (LockRule m key) n id me 17 (λ _. c) (λ _. StoresCallers (step n 17 c 0 said) me c)
  numbers n id me c said turn counts s k wide at lt =
      let o = out_is m key s k id me.0 at turn in
      let my_fit = k.fits id me.0 at in
      let more : k.callers ≤ c = ⊎_elim (λ (e : c ≡ me.0.callers). omega (arith, o.2)) (λ (e : c ≡ suc me.0.callers). omega (arith, o.2)) counts in
      let w = with_callers me.0 c in (
        w,
        keeps,
        tt,
        record {
          ticket = k.ticket;
          serving = k.serving;
          callers = c;
          sleepers = k.sleepers;
          log = k.log;
          words = ap (λ ws. set ws 17 c) k.words;
          bound = k.bound;
          queue = omega (arith, k.queue, waiting-set s.views id me.0 w at);
          fits = each_set (λ _ (u : View E F). ViewFits m.owner key k.log k.ticket k.serving c u) s.views id w
              (λ j u ne e. let f = k.fits j u e in record {
                seen = f.seen;
                fixed = f.fixed;
                joined_seen = f.joined_seen;
                place = f.place;
                turn = f.turn;
                number = λ x h. (let p = (f.number x h).0 in omega arith, (f.number x h).1);
              })
              record {
                seen = my_fit.seen;
                fixed = my_fit.fixed;
                joined_seen = (_, refl);
                place = my_fit.place;
                turn = my_fit.turn;
                number = λ x h. (mine x k.callers o.2 (λ q. (my_fit.number x q).0) h, ap (entries_by m.owner x) (sym o.1));
              };
          apart = apart_set s.views id w k.apart (away s.views id w (keeps_ticket s.views id me.0 w k.apart at refl)
              (λ x h j u ne e f. fresh x k.callers o.2 h (k.fits j u e) f (λ q. ne (k.apart j id u me.0 e at (inr (x, f, q))))));
          below = λ i d h. let p = k.below i d h in omega arith;
          slot = inr (id, w, set_at s.views id me.0 w at, turn, o.0, o.1, refl);
        },
        refl,
      )
    where
      -- the number after: the old one, or the count before
      which : (x : ℕ) → number_after me.0.number me.0.callers c ≡ Some x → (me.0.number ≡ Some x) ⊎ ((x ≡ me.0.callers) × (c ≡ suc me.0.callers))
      which x h = ⊎_elim
          (λ (e : c ≡ me.0.callers). inl (sym (ap (λ b. cond b (Some me.0.callers) me.0.number) (ap (ltb me.0.callers) e ∙ ltb_self me.0.callers)) ∙ h))
          (λ (e : c ≡ suc me.0.callers).
          let yes : ltb me.0.callers c ≡ true = lt-ltb me.0.callers c (omega arith) in
          inr (sym (some_is me.0.callers x (sym (ap (λ b. cond b (Some me.0.callers) me.0.number) yes) ∙ h)), e))
          counts

      mine : (x callers : ℕ) → me.0.callers ≡ callers → (me.0.number ≡ Some x → x < callers) → number_after me.0.number me.0.callers c ≡ Some x → x < c
      mine x callers is old h = ⊎_elim
          (λ (q : me.0.number ≡ Some x). let p = old q in ⊎_elim (λ (e : c ≡ me.0.callers). omega arith) (λ (e : c ≡ suc me.0.callers). omega arith) counts)
          (λ (q : (x ≡ me.0.callers) × (c ≡ suc me.0.callers)). omega (arith, q.0, q.1))
          (which x h)

      fresh : {log : List E} {t v : ℕ} {u : View E F} (x callers : ℕ) → me.0.callers ≡ callers → number_after me.0.number me.0.callers c ≡ Some x → ViewFits m.owner key log t v callers u → u.number ≡ Some x → ¬ (me.0.number ≡ Some x) → ⊥
      fresh x callers is h fit has not = ⊎_elim
          (λ (q : me.0.number ≡ Some x). not q)
          (λ (q : (x ≡ me.0.callers) × (c ≡ suc me.0.callers)). let p = (fit.number x has).0 in let q0 = q.0 in absurd (omega arith))
          (which x h)

  -- the turn ends, and the slot goes home
  pub raises : (n id : ℕ) (me : Me (Option B) (View E F)) (b : B) (said : _) → me.1 ≡ (0, Some b) ∷ [] → me.0.has_turn ≡ true → me.0.seen ≡ m.entries b → me.0.callers ≡ m.caller_count b
      → (f : F) → me.0.fixed ≡ Some f → m.fixed b ≡ f
      → Allows (LockRule m key) n id me 8 (λ x. (x + 1) % 2 ^ 64) (RaisesServing (step n 8 1 0 said) me)
  raises n id me b said holds turn seen caller_count f known_callers fixed s k wide at lt =
      let o = out_is m key s k id me.0 at turn in
      let my_fit = k.fits id me.0 at in
      let w = without_turn me.0 in
      let my_ticket : me.0.ticket ≡ Some k.serving = my_fit.turn turn in
      let early = (my_fit.place k.serving my_ticket).1 in
      let is : get_or s.words 8 0 ≡ k.serving = word m key s k 8 in
      let next : (get_or s.words 8 0 + 1) % 2 ^ 64 ≡ k.serving + 1 = ap (λ x. (x + 1) % 2 ^ 64) is ∙ mod-eq_of_lt {n = k.serving + 1} {m = 2 ^ 64} (omega (arith, k.bound)) in (
        w,
        gives,
        tt,
        record {
          ticket = k.ticket;
          serving = k.serving + 1;
          callers = k.callers;
          sleepers = k.sleepers;
          log = k.log;
          words = (λ i. set (k.words i) 8 (next i));
          bound = k.bound;
          queue = omega (arith, k.queue, waiting-set s.views id me.0 w at, ap ticket_count my_ticket);
          fits = each_set (λ _ (u : View E F). ViewFits m.owner key k.log k.ticket (k.serving + 1) k.callers u) s.views id w
              (λ j u ne e. let fit = k.fits j u e in
              let not : (t : ℕ) → u.ticket ≡ Some t → t ≢ k.serving = λ t h q. ne (k.apart j id u me.0 e at (inl (k.serving, h ∙ ap (λ (x : ℕ). Some x) q, my_ticket))) in
              record {
                seen = fit.seen;
                fixed = fit.fixed;
                joined_seen = fit.joined_seen;
                place = λ t h. let p = (fit.place t h).0 in let q = not t h in (after k.serving t p q, (fit.place t h).1);
                turn = λ h. off u.has_turn (others_wait m key s k id me.0 at turn j u ne e) h;
                number = fit.number;
              })
              record {
                seen = my_fit.seen;
                fixed = my_fit.fixed;
                joined_seen = (_, refl);
                place = λ t h. some_is_none None t refl h;
                turn = λ h. off false refl h;
                number = my_fit.number;
              };
          apart = apart_set s.views id w k.apart (away s.views id w (none_ticket s.views id w refl) (keeps_number s.views id me.0 w k.apart at refl));
          below = k.below;
          slot = inl (
            each_set (λ _ (u : View E F). u.has_turn ≡ false) s.views id w (λ j u ne e. others_wait m key s k id me.0 at turn j u ne e) refl,
            b,
            (λ i. put_back (o.0 i) (holds i)),
            sym seen ∙ o.1,
            sym caller_count ∙ o.2,
            fixed ∙ my_fit.fixed f known_callers,
          );
        },
        (λ i. (w, tail (holds i))),
      )
    where
      after : (a t : ℕ) → a ≤ t → t ≢ a → a + 1 ≤ t
      after a t h ne = dite (dec_le (a + 1) t) (λ y. y) (λ n. absurd (ne (omega arith)))

      tail : List (ℕ × Option B) → List (ℕ × Option B)
      tail [] = []
      tail (z ∷ zs) = zs

  -- the three steps that end a turn, at a seat that is known
  pub adds_as : (n id : ℕ) (me : Me (Option B) (View E F)) (v : View E F) (b : B) (by c : ℕ) (said : _) → me ≡ (v, (0, Some b) ∷ []) → v.has_turn ≡ true → MayLeave m v by b → c ≡ length (m.entries b)
      → Allows (LockRule m key) n id me 16 (λ _. c) (λ _. StoresLength m (step n 16 c 0 said) me c)
  adds_as n id me v b by c said is turn may long = subst (λ (x : Me (Option B) (View E F)). Allows (LockRule m key) n id x 16 (λ _. c) (λ _. StoresLength m (step n 16 c 0 said) x c)) (sym is)
      (adds n id (v, (0, Some b) ∷ []) b by c may.0.0 said refl turn may.0.1 may.0.2 may.0.3 long)

  pub numbers_as : (n id : ℕ) (me : Me (Option B) (View E F)) (v : View E F) (b : B) (by c : ℕ) (said : _) → me ≡ (with_seen v (m.entries b), (0, Some b) ∷ []) → v.has_turn ≡ true → MayLeave m v by b → c ≡ m.caller_count b
      → Allows (LockRule m key) n id me 17 (λ _. c) (λ _. StoresCallers (step n 17 c 0 said) me c)
  numbers_as n id me v b by c said is turn may caller_count = subst (λ (x : Me (Option B) (View E F)). Allows (LockRule m key) n id x 17 (λ _. c) (λ _. StoresCallers (step n 17 c 0 said) x c)) (sym is)
      (numbers n id (with_seen v (m.entries b), (0, Some b) ∷ []) c said turn (subst (GivesAtMostOne v.callers) (sym caller_count) may.1))

  pub raises_as : (n id : ℕ) (me : Me (Option B) (View E F)) (v : View E F) (b : B) (by : ℕ) (said : _) → me ≡ (with_callers (with_seen v (m.entries b)) (m.caller_count b), (0, Some b) ∷ []) → v.has_turn ≡ true → MayLeave m v by b
      → Allows (LockRule m key) n id me 8 (λ x. (x + 1) % 2 ^ 64) (RaisesServing (step n 8 1 0 said) me)
  raises_as n id me v b by said is turn may = subst (λ (x : Me (Option B) (View E F)). Allows (LockRule m key) n id x 8 (λ x. (x + 1) % 2 ^ 64) (RaisesServing (step n 8 1 0 said) x)) (sym is)
      (raises n id (with_callers (with_seen v (m.entries b)) (m.caller_count b), (0, Some b) ∷ []) b said refl turn refl refl may.2.0 may.2.1 may.2.2)
