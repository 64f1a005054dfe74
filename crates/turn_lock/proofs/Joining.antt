-- Splits and joins keep the rule.
use Rattle.std.proofs.Common.{◌≡◌, ◌≢◌, ℕ, ◌<◌, List, [], ◌∷◌, ◌++◌, set, get_or, Option, None, false, refl, sym, ap, ◌∙◌, subst, inl, inr, ⊎_elim, arith}
use mathlib.Core.Option.{some}
use lib.ListN.{get_elem?}
use Rattle.atomic_table.specs.Table.{Me, step, keeps, Allows, Splits, Joins}
use Rattle.atomic_table.proofs.Lists.{set_again, at_longer}
use mathlib.Core.List.{IsPrefix}
use Rattle.turn_lock.specs.History.{longer}
use Rattle.turn_lock.specs.Turn.{Meaning}
use Rattle.turn_lock.specs.Rule.{ticket_count, ViewFits, NoneClash, IsHome, IsOut, LockRule, spent_view, split_view, joined, MergesSeen, merged}
use Rattle.turn_lock.specs.declared.view.View.{View}
use Rattle.turn_lock.proofs.Views.{set_off, same_at, each_set, each_snoc, some_is_none, off, waiting-set, waiting-snoc, apart_set, apart_snoc, away, keeps_ticket, keeps_number, none_ticket, none_number, longer_is, first_in, second_in, between}
use Rattle.turn_lock.proofs.Slot.{same_words, slot_kept}

module _ {B E F : Type 0} (m : Meaning B E F) (key : F) where
  pub splits : (id : ℕ) (v : View E F) → Splits (LockRule m key) id v v (split_view v)
  splits id v s k at =
      let fit = k.fits id v at in
      let same : set s.views id v ++ split_view v ∷ [] ≡ s.views ++ split_view v ∷ [] = ap (λ (l : List (View E F)). l ++ split_view v ∷ []) (set_again s.views id v at) in
      let made : LockRule m key record { words = s.words; homes = s.homes; views = s.views ++ split_view v ∷ [] } = record {
        ticket = k.ticket;
        serving = k.serving;
        callers = k.callers;
        sleepers = k.sleepers;
        log = k.log;
        words = k.words;
        bound = k.bound;
        queue = omega (arith, k.queue, waiting-snoc s.views (split_view v));
        fits = each_snoc (ViewFits m.owner key k.log k.ticket k.serving k.callers) s.views (split_view v) k.fits
            record {
              seen = fit.seen;
              fixed = fit.fixed;
              joined_seen = (_, refl);
              place = λ t h. some_is_none None t refl h;
              turn = λ h. off false refl h;
              number = λ x h. some_is_none None x refl h;
            };
        apart = apart_snoc s.views (split_view v) k.apart refl refl;
        below = k.below;
        slot = ⊎_elim
            (λ (h : IsHome m key k.log k.callers s). inl (each_snoc (λ (u : View E F). u.has_turn ≡ false) s.views (split_view v) h.0 refl, h.1, h.2, h.3, h.4, h.5))
            (λ (o : IsOut k.log k.callers s). inr (o.0, o.1, at_longer s.views (split_view v ∷ []) o.0 o.1 o.2, o.3, o.4, o.5, o.6))
            k.slot;
      } in
      subst (LockRule m key) (λ i. record { words = s.words; homes = s.homes; views = sym same i }) made

  pub joins : (id : ℕ) (v : View E F) (other : ℕ) (w : View E F) → v.has_turn ≡ false → w.has_turn ≡ false → w.ticket ≡ None → Joins (LockRule m key) id v other w (joined v w) spent_view
  joins id v other w still still' bare s k at apart there =
      let j = joined v w in
      let at' : get_elem? s.views other ≡ some w = sym (set_off s.views id other j apart) ∙ there in
      let mine = k.fits id v at in
      let theirs = k.fits other w at' in
      let vs = set s.views id j in
      let apart_one : NoneClash vs = apart_set s.views id j k.apart (away s.views id j (keeps_ticket s.views id v j k.apart at refl) (keeps_number s.views id v j k.apart at refl)) in
      let fits_one : (i : ℕ) (u : View E F) → get_elem? vs i ≡ some u → ViewFits m.owner key k.log k.ticket k.serving k.callers u = each_set (λ _ (u : View E F). ViewFits m.owner key k.log k.ticket k.serving k.callers u) s.views id j (λ i u _ e. k.fits i u e)
      record {
        seen = mine.seen;
        fixed = mine.fixed;
        joined_seen = theirs.seen;
        place = mine.place;
        turn = mine.turn;
        number = mine.number;
      } in
      record {
        ticket = k.ticket;
        serving = k.serving;
        callers = k.callers;
        sleepers = k.sleepers;
        log = k.log;
        words = k.words;
        bound = k.bound;
        queue = omega (arith, k.queue, waiting-set s.views id v j at, waiting-set vs other w spent_view there, ap ticket_count bare);
        fits = each_set (λ _ (u : View E F). ViewFits m.owner key k.log k.ticket k.serving k.callers u) vs other spent_view (λ i u _ e. fits_one i u e)
            record {
              seen = (k.log, refl);
              fixed = λ f h. some_is_none None f refl h;
              joined_seen = (_, refl);
              place = λ t h. some_is_none None t refl h;
              turn = λ h. off false refl h;
              number = λ x h. some_is_none None x refl h;
            };
        apart = apart_set vs other spent_view apart_one (away vs other spent_view (none_ticket vs other spent_view refl) (none_number vs other spent_view refl));
        below = k.below;
        slot = ⊎_elim
            (λ (h : IsHome m key k.log k.callers s). inl (each_set (λ _ (u : View E F). u.has_turn ≡ false) vs other spent_view (λ i u _ e. each_set (λ _ (u : View E F). u.has_turn ≡ false) s.views id j (λ i u _ e. h.0 i u e) still i u e) refl, h.1, h.2, h.3, h.4, h.5))
            (λ (o : IsOut k.log k.callers s).
            let a : o.0 ≢ id = λ e. off v.has_turn still (ap (λ (x : View E F). x.has_turn) (sym (same_at s.views o.0 id o.1 v o.2 at e)) ∙ o.3) in
            let b : o.0 ≢ other = λ e. off w.has_turn still' (ap (λ (x : View E F). x.has_turn) (sym (same_at s.views o.0 other o.1 w o.2 at' e)) ∙ o.3) in
            inr (o.0, o.1, set_off vs other o.0 spent_view b ∙ set_off s.views id o.0 j a ∙ o.2, o.3, o.4, o.5, o.6))
            k.slot;
      }

  -- a load after a join: the pass has seen the longer of the two lists, which both begin
  pub merges : (n id : ℕ) (me : Me (Option B) (View E F)) (i : ℕ) (said : _) → i < 19 → me.0.has_turn ≡ false → Allows (LockRule m key) n id me i (λ x. x) (MergesSeen (step n i 0 0 said) me)
  merges n id me i said few still s k wide at lt =
      let v = me.0 in
      let mine = k.fits id v at in
      let w = merged v in
      let front = first_in v.seen v.joined_seen k.log mine.seen mine.joined_seen in
      let whole : IsPrefix w.seen k.log = ⊎_elim (λ (q : longer v.seen v.joined_seen ≡ v.seen). subst (λ l. IsPrefix l k.log) (sym q) mine.seen) (λ (q : longer v.seen v.joined_seen ≡ v.joined_seen). subst (λ l. IsPrefix l k.log) (sym q) mine.joined_seen) (longer_is v.seen v.joined_seen) in (
        w,
        keeps,
        tt,
        record {
          ticket = k.ticket;
          serving = k.serving;
          callers = k.callers;
          sleepers = k.sleepers;
          log = k.log;
          words = same_words m key s k i few ∙ k.words;
          bound = k.bound;
          queue = omega (arith, k.queue, waiting-set s.views id v w at);
          fits = each_set (λ _ (u : View E F). ViewFits m.owner key k.log k.ticket k.serving k.callers u) s.views id w (λ j u _ e. k.fits j u e)
              record {
                seen = whole;
                fixed = mine.fixed;
                joined_seen = (_, refl);
                place = mine.place;
                turn = mine.turn;
                number = λ x h. ((mine.number x h).0, between m.owner x v.seen w.seen k.log front whole (mine.number x h).1);
              };
          apart = apart_set s.views id w k.apart (away s.views id w (keeps_ticket s.views id v w k.apart at refl) (keeps_number s.views id v w k.apart at refl));
          below = k.below;
          slot = slot_kept m key s k id v w (set s.words i (get_or s.words i 0)) at still still;
        },
        (refl, front, second_in v.seen v.joined_seen k.log mine.seen mine.joined_seen),
      )
