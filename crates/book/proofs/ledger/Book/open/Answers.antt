use Rattle.std.proofs.Common.{◌+◌, ◌≤◌, List, [], refl, sym, ap, subst, ◌∙◌, arith}
use Rattle.std.specs.Prelude.{vec_len, vec_capacity}
use Rattle.std.specs.Arc.{arc_value}
use Rattle.std.specs.HashMap.{get}
use Rattle.std.specs.Str.{bytes_eq}
use Rattle.history.specs.Entries.{imports, newest, snap}
use Rattle.impact_job.specs.declared.prefix.Prefix.{Prefix}
use Rattle.impact_job.specs.Tables.{IsPrefixOf}
use Rattle.book.specs.declared.entry.Entry.{Entry}
use Rattle.book.specs.Entries.{history_of, AreWhole}
use Rattle.book.proofs.Numbers.{next_small}
use Rattle.book.proofs.Repositories.{repos-same}
use Rattle.book.proofs.Opening.{open_book}
use Rattle.book.proofs.ledger.Book.open.Goals as goal

pub overflow_add-self-inside : goal.overflow_add-self-inside
overflow_add-self-inside c = let k = next_small c.self.invariant.0 in omega (arith, k)

pub invariant_of-self-2 : goal.invariant_of-self-2
invariant_of-self-2 c =
    let made : IsPrefixOf (arc_value c.in_ok-shared.shared) (snap c.args.self.now.history (newest c.args.self.now.history)) (imports c.args.self.now.history) =
    subst (λ (x : Prefix). IsPrefixOf x (snap c.args.self.now.history (newest c.args.self.now.history)) (imports c.args.self.now.history)) (sym c.in_ok-shared.ensures.ok) c.in_ok-prefix.ensures in
    let r = open_book c.self.inside.entries.items c.args.self.now c.reserve.new.self.items c.args.by c.len-place.result c.in_ok-shared.shared c.in_ok-job.job c.self.view_is c.reserve.ensures.items
    (c.len-place.ensures ∙ c.reserve.new.self.ok.0) c.in_ok-job.ensures made c.self.invariant.0 c.requires.none c.requires.given c.requires.more in (
      r.1,
      c.self.invariant.1,
      (let k : vec_len c.reserve.new.self + 1 ≤ vec_capacity c.reserve.new.self = c.in_ok-reserve.ensures.ok in omega (arith, k)),
      repos-same (history_of c.self.inside.entries.items) (history_of c.reserve.new.self.items) (get bytes_eq c.self.inside.repos) (get bytes_eq c.self.inside.repos) (ap (λ (xs : List Entry). history_of xs) c.reserve.ensures.items) (λ key. refl) c.self.invariant.3,
      subst (λ (xs : List Entry). AreWhole [] xs) (sym c.reserve.ensures.items) c.self.invariant.4,
    )

pub returns : goal.returns
returns c =
    let made : IsPrefixOf (arc_value c.in_ok-shared.shared) (snap c.args.self.now.history (newest c.args.self.now.history)) (imports c.args.self.now.history) =
    subst (λ (x : Prefix). IsPrefixOf x (snap c.args.self.now.history (newest c.args.self.now.history)) (imports c.args.self.now.history)) (sym c.in_ok-shared.ensures.ok) c.in_ok-prefix.ensures in
    let r = open_book c.self.inside.entries.items c.args.self.now c.reserve.new.self.items c.args.by c.len-place.result c.in_ok-shared.shared c.in_ok-job.job c.self.view_is c.reserve.ensures.items
    (c.len-place.ensures ∙ c.reserve.new.self.ok.0) c.in_ok-job.ensures made c.self.invariant.0 c.requires.none c.requires.given c.requires.more in
    r.0
