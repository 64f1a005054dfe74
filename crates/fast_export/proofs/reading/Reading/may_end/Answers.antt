use Rattle.std.proofs.Common.{◌≡◌, ◌<◌, length, arith, ◌∙◌, ap, sym}
use Rattle.std.proofs.lemmas.Bool.Decides.{nat_tests}
use Rattle.std.proofs.lemmas.List.{nil_from_length}
use Rattle.fast_export.specs.Stream.{Outcome, Stop}
use Rattle.fast_export.specs.Following.{may_end_at}
use Rattle.fast_export.specs.Commits.{facts_of}
use Rattle.fast_export.proofs.Ends.{end_skip, end_line, end_none, whole_end, short_end}
use Rattle.fast_export.proofs.reading.Reading.may_end.Goals as goal

pub returns-then-self-gt0-clause-short : goal.returns-then-self-gt0-clause-short
returns-then-self-gt0-clause-short c = λ e. rw c.requires (end_skip _ _ _ c.args.self.now.line.items c.args.self.now.at c.args.self.now.skip c.if-self-gt0.true)

pub returns-then-not-is_empty-clause-short : goal.returns-then-not-is_empty-clause-short
returns-then-not-is_empty-clause-short c = λ e.
    let zero : c.args.self.now.skip ≡ 0 = omega arith in
    let some : 0 < length c.args.self.now.line.items = grind (arith, nat_tests) in
    rw (c.requires, zero) (end_line _ _ _ c.args.self.now.line.items c.args.self.now.at c.args.self.now.clean c.args.self.now.short some)

pub returns-clause-whole : goal.returns-clause-whole
returns-clause-whole c = λ e.
    let zero : c.args.self.now.skip ≡ 0 = omega arith in
    let none : length c.args.self.now.line.items ≡ 0 = grind (arith, nat_tests) in
    rw (c.requires, zero) (
    end_none _ _ _ c.args.self.now.line.items c.args.self.now.at (nil_from_length c.args.self.now.line.items none)
    ∙ ap (λ (o : Outcome). Stop o) (whole_end (may_end_at c.args.self.now.commands.parts.now) (facts_of c.args.self.now.commands.commits) (sym c.may_end.ensures ∙ e))
    )

pub returns-clause-short : goal.returns-clause-short
returns-clause-short c = λ e.
    let zero : c.args.self.now.skip ≡ 0 = omega arith in
    let none : length c.args.self.now.line.items ≡ 0 = grind (arith, nat_tests) in
    rw (c.requires, zero) (
    end_none _ _ _ c.args.self.now.line.items c.args.self.now.at (nil_from_length c.args.self.now.line.items none)
    ∙ ap (λ (o : Outcome). Stop o) (short_end (may_end_at c.args.self.now.commands.parts.now) (facts_of c.args.self.now.commands.commits) (sym c.may_end.ensures ∙ e))
    )
