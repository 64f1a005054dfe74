use Rattle.std.proofs.Common.{◌≡◌, ℕ, ◌+◌, ◌≤◌, List, [], ◌∷◌, ◌++◌, length, drop, refl, ap, subst, ◌∙◌, arith}
use Rattle.std.specs.Prelude.{vec_len, vec_capacity}
use Rattle.std.specs.Arc.{arc_value}
use Rattle.std.specs.HashMap.{get}
use Rattle.std.specs.Str.{bytes_eq}
use Rattle.osv_prim.specs.declared.oid.CommitRow.{CommitRow}
use Rattle.osv_prim.specs.Graphs.{IsLegal}
use Rattle.history.specs.declared.past.Past.TheVariants.{Grow}
use Rattle.history.specs.Prefixes.{grows}
use Rattle.book_model.specs.State.{State}
use Rattle.book_model.specs.Steps.{grown_by}
use Rattle.book.specs.declared.entry.Entry.{Entry}
use Rattle.book.specs.declared.entry.Entry.TheVariants as entries
use Rattle.book.specs.Entries.{history_of}
use Rattle.book.specs.Books.{state_of}
use Rattle.book.proofs.Numbers.{imports_small, grows_small}
use Rattle.book.proofs.Repositories.{repos-grown, whole-grown, whole-pushed}
use Rattle.book.proofs.Opening.{grow_room, grow_book, import_returns, pushed_history, if_some}
use Rattle.book.proofs.ledger.Book.grow.Goals as goal

pub overflow_add-repo : goal.overflow_add-repo
overflow_add-repo c =
    let k = grows_small c.args.key c.self.invariant.0 in
    let same : grows (history_of c.self.inside.entries.items) c.args.key ≡ grows c.args.self.now.history c.args.key = ap (λ (s : State). grows s.history c.args.key) c.self.view_is in
    omega (arith, k, same, c.standing-standing.ensures.grows)

pub overflow_add-self : goal.overflow_add-self
overflow_add-self c = let k = imports_small c.self.invariant.0 in omega (arith, k)

pub returns-in_default : goal.returns-in_default
returns-in_default c =
    let g = grow_room c.self.inside.entries.items c.args.self.now c.args.by c.args.key c.args.version c.standing-standing.result.grows (arc_value c.args.graph) c.deref.result.now c.standing-standing.result.weight c.weight_beyond-weight.result c.self.view_is
    c.if-version-standing.false c.standing-standing.ensures.grows c.requires.version c.deref.ensures c.standing-standing.ensures.weight c.weight_beyond-weight.ensures.exact c.if-limit-used.false c.self.invariant.0 in
    (g.0, g.2, ap (λ (xs : List Entry). state_of c.self.inside.settings (history_of xs) c.self.inside.callers c.self.inside.build c.self.inside.note) c.reserve.ensures.items ∙ c.self.view_is)

pub returns-in_default-try_clone : goal.returns-in_default-try_clone
returns-in_default-try_clone c =
    let g = grow_room c.self.inside.entries.items c.args.self.now c.args.by c.args.key c.args.version c.standing-standing.result.grows (arc_value c.args.graph) c.deref.result.now c.standing-standing.result.weight c.weight_beyond-weight.result c.self.view_is
    c.if-version-standing.false c.standing-standing.ensures.grows c.requires.version c.deref.ensures c.standing-standing.ensures.weight c.weight_beyond-weight.ensures.exact c.if-limit-used.false c.self.invariant.0 in
    (g.0, g.2, ap (λ (xs : List Entry). state_of c.self.inside.settings (history_of xs) c.self.inside.callers c.self.inside.build c.self.inside.note) c.reserve.ensures.items ∙ c.self.view_is)

pub returns-in_default-put : goal.returns-in_default-put
returns-in_default-put c =
    let g = grow_room c.self.inside.entries.items c.args.self.now c.args.by c.args.key c.args.version c.standing-standing.result.grows (arc_value c.args.graph) c.deref.result.now c.standing-standing.result.weight c.weight_beyond-weight.result c.self.view_is
    c.if-version-standing.false c.standing-standing.ensures.grows c.requires.version c.deref.ensures c.standing-standing.ensures.weight c.weight_beyond-weight.ensures.exact c.if-limit-used.false c.self.invariant.0 in
    (g.0, g.2, ap (λ (xs : List Entry). state_of c.self.inside.settings (history_of xs) c.self.inside.callers c.self.inside.build c.self.inside.note) c.reserve.ensures.items ∙ c.self.view_is)

pub invariant_of-self-2 : goal.invariant_of-self-2
invariant_of-self-2 c =
    let g = grow_room c.self.inside.entries.items c.args.self.now c.args.by c.args.key c.args.version c.standing-standing.result.grows (arc_value c.args.graph) c.deref.result.now c.standing-standing.result.weight c.weight_beyond-weight.result c.self.view_is
    c.if-version-standing.false c.standing-standing.ensures.grows c.requires.version c.deref.ensures c.standing-standing.ensures.weight c.weight_beyond-weight.ensures.exact c.if-limit-used.false c.self.invariant.0 in
    let same : history_of c.push_reserved.new.self.items ≡ history_of c.self.inside.entries.items ++ grown_by c.args.by c.args.key (arc_value c.args.graph) c.args.self.now.history ∷ [] =
    pushed_history c.push_reserved.new.self.items c.reserve.new.self.items c.self.inside.entries.items (entries.Grow c.args.by c.args.key c.args.graph c.standing-standing.result.commits) c.push_reserved.ensures.items c.reserve.ensures.items
    ∙ ap (λ (n : ℕ). history_of c.self.inside.entries.items ++ Grow c.args.by c.args.key (drop n (arc_value c.args.graph)) ∷ []) c.standing-standing.ensures.commits in
    let legal : IsLegal (arc_value c.args.graph) = subst (λ (g : List CommitRow). IsLegal g) c.deref.ensures c.weight_beyond-weight.ensures.legal in
    let room : vec_len c.reserve.new.self + 2 ≤ vec_capacity c.reserve.new.self = c.in-Ok.ensures.ok in
    let long : vec_len c.push_reserved.new.self ≡ vec_len c.reserve.new.self + 1 = c.push_reserved.ensures.len in
    let cap : vec_capacity c.push_reserved.new.self ≡ vec_capacity c.reserve.new.self = c.push_reserved.ensures.capacity in
    let was : history_of c.self.inside.entries.items ≡ c.args.self.now.history = ap (λ (s : State). s.history) c.self.view_is in (
      grow_book c.self.inside.entries.items c.args.self.now c.push_reserved.new.self.items c.args.by c.args.key c.args.version (arc_value c.args.graph) c.weight_beyond-weight.result c.self.view_is
          g.0 c.requires.version legal g.1 c.if-limit-used.false same c.requires.given c.self.invariant.0,
      c.self.invariant.1,
      if_some c.self.inside.build (vec_len c.push_reserved.new.self) (vec_capacity c.push_reserved.new.self) (omega (arith, room, long, cap)),
      repos-grown c.self.inside.entries.items c.args.self.now.history c.args.by c.args.key c.args.version (arc_value c.args.graph) was g.0 c.requires.version
          c.push_reserved.new.self.items (record { grows = c.standing-standing.result.grows + 1; graph = c.in-Ok-try_clone.shared }) (get bytes_eq c.self.inside.repos) (get bytes_eq c.put.new.repos) same legal
          c.in-Ok-put.ensures.ok (ap (λ (n : ℕ). n + 1) c.standing-standing.ensures.grows) c.in-Ok-try_clone.ensures c.self.invariant.3,
      whole-pushed c.push_reserved.new.self.items c.reserve.new.self.items c.self.inside.entries.items (entries.Grow c.args.by c.args.key c.args.graph c.standing-standing.result.commits) c.push_reserved.ensures.items c.reserve.ensures.items
          (whole-grown c.self.inside.entries.items c.args.self.now.history c.args.by c.args.key c.args.version (arc_value c.args.graph) was g.0 c.requires.version c.args.graph c.standing-standing.result.commits c.standing-standing.ensures.commits refl legal) c.self.invariant.4,
    )

pub returns : goal.returns
returns c =
    let g = grow_room c.self.inside.entries.items c.args.self.now c.args.by c.args.key c.args.version c.standing-standing.result.grows (arc_value c.args.graph) c.deref.result.now c.standing-standing.result.weight c.weight_beyond-weight.result c.self.view_is
    c.if-version-standing.false c.standing-standing.ensures.grows c.requires.version c.deref.ensures c.standing-standing.ensures.weight c.weight_beyond-weight.ensures.exact c.if-limit-used.false c.self.invariant.0 in
    let same : history_of c.push_reserved.new.self.items ≡ history_of c.self.inside.entries.items ++ grown_by c.args.by c.args.key (arc_value c.args.graph) c.args.self.now.history ∷ [] =
    pushed_history c.push_reserved.new.self.items c.reserve.new.self.items c.self.inside.entries.items (entries.Grow c.args.by c.args.key c.args.graph c.standing-standing.result.commits) c.push_reserved.ensures.items c.reserve.ensures.items
    ∙ ap (λ (n : ℕ). history_of c.self.inside.entries.items ++ Grow c.args.by c.args.key (drop n (arc_value c.args.graph)) ∷ []) c.standing-standing.ensures.commits in (
      g.0,
      import_returns c.self.inside.settings c.self.inside.callers c.self.inside.build c.self.inside.note c.self.inside.entries.items c.args.self.now c.push_reserved.new.self.items c.len-place.result (grown_by c.args.by c.args.key (arc_value c.args.graph) c.args.self.now.history) c.self.view_is
          g.2 same (c.len-place.ensures ∙ c.reserve.new.self.ok.0 ∙ ap (λ (xs : List Entry). length xs) c.reserve.ensures.items),
    )
