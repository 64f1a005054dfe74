use Rattle.std.proofs.Common.{ℕ, ◌+◌, ◌≤◌, ◌<◌, refl, sym, subst, ◌∙◌}
use Rattle.std.specs.Prelude.{Option, IfSome, vec_len, vec_capacity}
use Rattle.book.specs.declared.build.Open.{Open}
use Rattle.std.specs.HashMap.{get}
use Rattle.std.specs.Str.{bytes_eq}
use Rattle.history.specs.declared.past.Past.TheVariants.{Publish}
use Rattle.book.specs.declared.entry.Entry.TheVariants as entries
use Rattle.book.specs.Entries.{history_of}
use Rattle.book.proofs.Repositories.{repos-pushed, whole-pushed}
use Rattle.book.proofs.Opening.{publish_book, pushed_history}
use Rattle.book.proofs.ledger.Book.publish.Goals as goal

pub invariant_of-self : goal.invariant_of-self
invariant_of-self c = (
  publish_book c.self.inside.entries.items c.self.inside.kept.items c.args.self.now c.push_reserved.new.self.items c.take.new.self c.keep-oldest.new.kept.items c.in-Some.open c.args.snapshot c.args.by c.args.build c.args.upto
      c.self.view_is (sym c.take.ensures.value ∙ c.in-Some.is) c.take.ensures.after c.push_reserved.ensures.items c.keep-oldest.ensures.items c.requires.given c.requires.out c.requires.holds c.self.invariant.0,
  subst (λ (n : ℕ). c.self.inside.settings.keep + 1 ≤ n) (sym c.keep-oldest.ensures.capacity) c.self.invariant.1,
  subst (λ (o : Option Open). IfSome o (λ x. vec_len c.push_reserved.new.self < vec_capacity c.push_reserved.new.self)) (sym c.take.ensures.after) tt,
  repos-pushed (history_of c.self.inside.entries.items) (history_of c.push_reserved.new.self.items) (Publish c.args.by c.args.upto) (get bytes_eq c.self.inside.repos)
      (pushed_history c.push_reserved.new.self.items c.self.inside.entries.items c.self.inside.entries.items (entries.Publish c.args.by c.args.upto) c.push_reserved.ensures.items refl) (λ key. refl) c.self.invariant.3,
  whole-pushed c.push_reserved.new.self.items c.self.inside.entries.items c.self.inside.entries.items (entries.Publish c.args.by c.args.upto) c.push_reserved.ensures.items refl tt c.self.invariant.4,
)
