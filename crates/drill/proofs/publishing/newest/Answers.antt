use Rattle.std.proofs.Common.{◌≡◌, ℕ, [], ◌∷◌, IfOk, sym, ap, subst}
use Rattle.std.specs.Prelude.{Result}
use Rattle.osv_prim.specs.declared.memory.Memory.{Memory}
use Rattle.history.specs.Entries.{History, imports, newest}
use Rattle.schedule.specs.declared.step.Answer.{Answer}
use Rattle.schedule.specs.declared.step.Step.TheVariants.{Pull}
use Rattle.schedule.specs.Machine.{IsPlayed}
use Rattle.drill.specs.Imported.{Has, IsPublished}
use Rattle.drill.proofs.Having.{has-same}
use Rattle.drill.proofs.Playing.{reached}
use Rattle.drill.proofs.publishing.newest.Goals as goal
use Rattle.drill.proofs.publishing.newest.Goals.{in-Reached, in_default}

pub returns-clause-has : goal.returns-clause-has
returns-clause-has g c a ks rows h = elim c.match-branch-2.branch [
  | in-Reached w ↦
      let p = subst (λ (x : Answer). IsPlayed (Pull 0 ∷ []) c.args.book.now (x ∷ []) c.one.new.book) w.in-Reached.is c.in_ok-snapshot.ensures.played in
      let r = reached c.args.book.now c.one.new.book 0 w.in-Reached.snapshot w.in-Reached.upto p in
      subst (λ (x : Result ℕ Memory). IfOk x (λ n. Has c.one.new.book a ks rows)) (sym w.result-is)
      (has-same c.args.book.now c.one.new.book a ks rows (ap (λ (x : History). imports x) r.0) h)
  | in_default w ↦ subst (λ (x : Result ℕ Memory). IfOk x (λ n. Has c.one.new.book a ks rows)) (sym w.result-is) tt
]

pub returns-clause-published : goal.returns-clause-published
returns-clause-published g c = elim c.match-branch-2.branch [
  | in-Reached w ↦
      let p = subst (λ (x : Answer). IsPlayed (Pull 0 ∷ []) c.args.book.now (x ∷ []) c.one.new.book) w.in-Reached.is c.in_ok-snapshot.ensures.played in
      let r = reached c.args.book.now c.one.new.book 0 w.in-Reached.snapshot w.in-Reached.upto p in
      subst (λ (x : Result ℕ Memory). IfOk x (λ n. (n ≡ newest c.one.new.book.history) × IsPublished c.one.new.book)) (sym w.result-is)
      (r.1, r.2)
  | in_default w ↦ subst (λ (x : Result ℕ Memory). IfOk x (λ n. (n ≡ newest c.one.new.book.history) × IsPublished c.one.new.book)) (sym w.result-is) tt
]
