-- Numbers of a book, and snapshots that are kept in it.
use Rattle.std.proofs.Common.{◌≡◌, ℕ, ◌+◌, ◌-◌, ◌<◌, ◌≤◌, List, length, get_or, sym, ap, subst, ◌∙◌, arith}
use Rattle.std.specs.Prelude.{Option}
use Rattle.std.specs.Arc.{arc_value}
use Rattle.std.specs.declared.sync.Arc.{Arc}
use Rattle.std.proofs.Math.ListN.{get_or-map}
use Rattle.std.proofs.lemmas.List.{length-map}
use Rattle.settings.specs.declared.Settings.{Settings}
use Rattle.turn_lock.specs.declared.note.Note.{Note}
use Rattle.history.specs.Entries.{History, weight, newest, snap, IsKept, oldest_kept}
use Rattle.commit_graph.specs.Linked.{weight_of}
use Rattle.history.specs.Prefixes.{grows, graph}
use Rattle.book_model.specs.State.{State}
use Rattle.snapshot.specs.declared.snapshot.Snapshot.{Snapshot}
use Rattle.snapshot.specs.Snapshots.{StandsFor}
use Rattle.book.specs.declared.build.Open.{Open}
use Rattle.book.specs.declared.ledger.Counts.{Counts}
use Rattle.book.specs.Books.{state_of, values_of, IsBook}
use Rattle.book.proofs.Growing.{few-grows, graph-weight}
use Rattle.book.proofs.Keeping.{kept-at}
use Rattle.book.proofs.Books.{few_in_book, kept_in_book}

-- what is shared at a place
pub shared_at : {X Z : Type 0} (xs : List (Arc X Z)) (i : ℕ) (r c : Arc X Z) → r ≡ get_or xs i r → arc_value c ≡ arc_value r → get_or (values_of xs) i (arc_value r) ≡ arc_value c
shared_at {X = X} {Z = Z} xs i r c at same = get_or-map (λ (a : Arc X Z). arc_value a) xs i r ∙ ap (λ (a : Arc X Z). arc_value a) (sym at) ∙ sym same

pub shared_length : {X Z : Type 0} (xs : List (Arc X Z)) → length (values_of xs) ≡ length xs
shared_length {X = X} {Z = Z} xs = length-map xs (λ (a : Arc X Z). arc_value a)

module _ {settings : Settings} {h : History} {callers : ℕ} {build : Option Open} {note : Note} {counts : Counts} {kept : List Snapshot} where
  pub next_small : IsBook settings h callers build note counts kept → counts.newest ≤ 67108864
  next_small b = let f = few_in_book settings h callers build note counts kept b in omega (arith, f.0, f.1, f.2, f.3)

  pub imports_small : IsBook settings h callers build note counts kept → counts.imports ≤ 67108864
  imports_small b = let f = few_in_book settings h callers build note counts kept b in omega (arith, f.1, f.2, f.3)

  pub grows_small : (key : List ℕ) → IsBook settings h callers build note counts kept → grows h key ≤ 67108864
  grows_small key b = let f = few_in_book settings h callers build note counts kept b in let g = few-grows h key in omega (arith, f.1, f.2, f.3, b.imported, g)

  pub graph_small : (s : State) (key : List ℕ) → state_of settings h callers build note ≡ s → IsBook settings h callers build note counts kept → weight_of (graph s.history key) ≤ 4294967296
  graph_small s key view b =
      let within : weight h ≤ settings.weight = b.sound.within in
      let most : settings.weight ≤ 4294967296 = b.suits.weight in
      let less : weight_of (graph h key) ≤ weight h = graph-weight h key in
      subst (λ (x : State). weight_of (graph x.history key) ≤ 4294967296) view (omega (arith, less, within, most))

  pub used_small : IsBook settings h callers build note counts kept → (counts.used ≤ settings.weight) × (settings.weight ≤ 4294967296)
  used_small b = let f = few_in_book settings h callers build note counts kept b in (f.2, f.3)

  pub some_kept : IsBook settings h callers build note counts kept → (1 ≤ length kept) × (length kept ≤ settings.keep)
  some_kept b = kept_in_book settings h callers build note counts kept b

  -- a snapshot that is kept stands where its number says
  pub found_here : (s : State) (number i : ℕ) (d : Snapshot) → state_of settings h callers build note ≡ s → IsBook settings h callers build note counts kept
      → number ≤ counts.newest → counts.newest + 1 - settings.keep ≤ number → i ≡ number - (counts.newest + 1 - settings.keep)
      → IsKept s.settings.keep s.history number × StandsFor (get_or kept i d) (snap s.history number)
  found_here s number i d view b le old at =
      let oldest : oldest_kept settings.keep h ≡ counts.newest + 1 - settings.keep = ap (λ (n : ℕ). n + 1 - settings.keep) (sym b.newest_is) in
      let short : i < length kept = omega (arith, b.kept_count, b.newest_is, le, old, at) in
      let sum : oldest_kept settings.keep h + i ≡ number = omega (arith, oldest, le, old, at) in
      let here : IsKept settings.keep h number × StandsFor (get_or kept i d) (snap h number) =
      ((omega (arith, b.newest_is, le), omega (arith, b.newest_is, le, old)), subst (λ (n : ℕ). StandsFor (get_or kept i d) (snap h n)) sum (kept-at h (oldest_kept settings.keep h) i kept d short b.kept_are)) in
      subst (λ (x : State). IsKept x.settings.keep x.history number × StandsFor (get_or kept i d) (snap x.history number)) view here

  -- the last one that is kept is the newest
  pub newest_here : (s : State) (i : ℕ) (d : Snapshot) → state_of settings h callers build note ≡ s → IsBook settings h callers build note counts kept → i + 1 ≡ length kept
      → (counts.newest ≡ newest s.history) × StandsFor (get_or kept i d) (snap s.history (newest s.history))
  newest_here s i d view b at =
      let sum : oldest_kept settings.keep h + i ≡ newest h = omega (arith, b.kept_count, b.newest_is, at) in
      let here : (counts.newest ≡ newest h) × StandsFor (get_or kept i d) (snap h (newest h)) =
      (b.newest_is, subst (λ (n : ℕ). StandsFor (get_or kept i d) (snap h n)) sum (kept-at h (oldest_kept settings.keep h) i kept d (omega (arith, at)) b.kept_are)) in
      subst (λ (x : State). (counts.newest ≡ newest x.history) × StandsFor (get_or kept i d) (snap x.history (newest x.history))) view here
