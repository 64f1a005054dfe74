use Rattle.std.proofs.Common.{◌≡◌, ◌+◌, ◌≤◌, List, length, refl, ap, ◌∙◌, arith}
use Rattle.std.specs.Prelude.{vec_len, vec_capacity}
use Rattle.std.specs.Arc.{arc_value}
use Rattle.osv_record.specs.Advisories.{Advisory}
use Rattle.history.specs.declared.past.Past.TheVariants.{Import}
use Rattle.history.specs.Entries.{entry_weight}
use Rattle.book.specs.declared.entry.Entry.{Entry}
use Rattle.book.specs.declared.entry.Entry.TheVariants as entries
use Rattle.book.specs.Entries.{history_of}
use Rattle.book.specs.Books.{state_of}
use Rattle.std.specs.HashMap.{get}
use Rattle.std.specs.Str.{bytes_eq}
use Rattle.book.proofs.Numbers.{imports_small}
use Rattle.book.proofs.Repositories.{repos-pushed, whole-pushed}
use Rattle.book.proofs.Opening.{import_full, import_room, import_book, import_returns, pushed_history, if_some}
use Rattle.book.proofs.ledger.Book.import.Goals as goal

pub returns-then-limit-used : goal.returns-then-limit-used
returns-then-limit-used c =
    let is : c.weight_of-weight.result ≡ entry_weight (Import c.args.by (arc_value c.args.advisory)) = c.weight_of-weight.ensures c.args.by ∙ ap (λ (r : Advisory). entry_weight (Import c.args.by r)) c.deref.ensures in
    (import_full c.self.inside.entries.items c.args.self.now (Import c.args.by (arc_value c.args.advisory)) c.weight_of-weight.result c.self.view_is (omega (arith, is)) c.if-limit-used.true c.self.invariant.0, refl)

pub overflow_add-self : goal.overflow_add-self
overflow_add-self c = let k = imports_small c.self.invariant.0 in omega (arith, k)

pub invariant_of-self-2 : goal.invariant_of-self-2
invariant_of-self-2 c =
    let is : c.weight_of-weight.result ≡ entry_weight (Import c.args.by (arc_value c.args.advisory)) = c.weight_of-weight.ensures c.args.by ∙ ap (λ (r : Advisory). entry_weight (Import c.args.by r)) c.deref.ensures in
    let same = pushed_history c.push_reserved.new.self.items c.reserve.new.self.items c.self.inside.entries.items (entries.Import c.args.by c.args.advisory) c.push_reserved.ensures.items c.reserve.ensures.items in
    let room : vec_len c.reserve.new.self + 2 ≤ vec_capacity c.reserve.new.self = c.in-Ok.ensures.ok in
    let long : vec_len c.push_reserved.new.self ≡ vec_len c.reserve.new.self + 1 = c.push_reserved.ensures.len in
    let cap : vec_capacity c.push_reserved.new.self ≡ vec_capacity c.reserve.new.self = c.push_reserved.ensures.capacity in (
      import_book c.self.inside.entries.items c.args.self.now c.push_reserved.new.self.items c.args.by c.weight_of-weight.result (arc_value c.args.advisory) c.self.view_is is c.if-limit-used.false same c.requires c.self.invariant.0,
      c.self.invariant.1,
      if_some c.self.inside.build (vec_len c.push_reserved.new.self) (vec_capacity c.push_reserved.new.self) (omega (arith, room, long, cap)),
      repos-pushed (history_of c.self.inside.entries.items) (history_of c.push_reserved.new.self.items) (Import c.args.by (arc_value c.args.advisory)) (get bytes_eq c.self.inside.repos) same (λ key. refl) c.self.invariant.3,
      whole-pushed c.push_reserved.new.self.items c.reserve.new.self.items c.self.inside.entries.items (entries.Import c.args.by c.args.advisory) c.push_reserved.ensures.items c.reserve.ensures.items tt c.self.invariant.4,
    )

pub returns : goal.returns
returns c =
    let is : c.weight_of-weight.result ≡ entry_weight (Import c.args.by (arc_value c.args.advisory)) = c.weight_of-weight.ensures c.args.by ∙ ap (λ (r : Advisory). entry_weight (Import c.args.by r)) c.deref.ensures in
    let same = pushed_history c.push_reserved.new.self.items c.reserve.new.self.items c.self.inside.entries.items (entries.Import c.args.by c.args.advisory) c.push_reserved.ensures.items c.reserve.ensures.items in
    import_returns c.self.inside.settings c.self.inside.callers c.self.inside.build c.self.inside.note c.self.inside.entries.items c.args.self.now c.push_reserved.new.self.items c.len-place.result (Import c.args.by (arc_value c.args.advisory)) c.self.view_is
    (import_room c.self.inside.entries.items c.args.self.now (Import c.args.by (arc_value c.args.advisory)) c.weight_of-weight.result c.self.view_is is c.if-limit-used.false c.self.invariant.0)
    same (c.len-place.ensures ∙ c.reserve.new.self.ok.0 ∙ ap (λ (xs : List Entry). length xs) c.reserve.ensures.items)

pub returns-in_default : goal.returns-in_default
returns-in_default c =
    let is : c.weight_of-weight.result ≡ entry_weight (Import c.args.by (arc_value c.args.advisory)) = c.weight_of-weight.ensures c.args.by ∙ ap (λ (r : Advisory). entry_weight (Import c.args.by r)) c.deref.ensures in (
      import_room c.self.inside.entries.items c.args.self.now (Import c.args.by (arc_value c.args.advisory)) c.weight_of-weight.result c.self.view_is is c.if-limit-used.false c.self.invariant.0,
      ap (λ (xs : List Entry). state_of c.self.inside.settings (history_of xs) c.self.inside.callers c.self.inside.build c.self.inside.note) c.reserve.ensures.items ∙ c.self.view_is,
    )
