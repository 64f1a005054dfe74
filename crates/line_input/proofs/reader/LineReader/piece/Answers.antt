use Rattle.std.proofs.Common.{◌≡◌, ◌∙◌, ap, arith}
use Rattle.line_input.specs.Reader.{Holds, given_count}
use Rattle.line_input.specs.declared.reader.LineReader.{LineReader}
use Rattle.line_input.proofs.Standing.{held_more, holds_as}
use Rattle.line_input.proofs.Filling.{count_filled, count_given, count_settled, piece_given}
use Rattle.line_input.proofs.reader.LineReader.piece.Goals as goal
use Rattle.line_input.proofs.reader.LineReader.piece.Goals.{then-is_empty+in_ok-other+in-Here, else-is_empty}

pub returns-clause-piece : goal.returns-clause-piece
returns-clause-piece g c = λ rest total h.
    let r = c.if-is_empty.self in
    let left = g.S.Source.left c.if-is_empty.source in
    let settled = c.settle.ensures.holds rest total (g.S.Source.left c.args.source.now) h in
    let none : r.given ≡ 0 =
    elim c.if-is_empty.branch [
      | then-is_empty+in_ok-other+in-Here w ↦ ap (λ (x : LineReader). x.given) w.self-is ∙ w.in_ok-other.ensures.fills.same.1 ∙ c.settle.ensures.marks.given
      | else-is_empty w ↦ ap (λ (x : LineReader). x.given) w.self-is ∙ c.settle.ensures.marks.given
    ] in
    let holds : Holds rest total r left =
    elim c.if-is_empty.branch [
      | then-is_empty+in_ok-other+in-Here w ↦
          holds_as rest total r w.fill.new.self left (g.S.Source.left w.fill.new.source) w.self-is (ap g.S.Source.left w.source-is)
          (held_more rest total c.settle.new.self w.fill.new.self (g.S.Source.left c.args.source.now) (g.S.Source.left w.fill.new.source) _ c.settle.ensures.marks.given w.in_ok-other.ensures.fills
          (w.in_ok-other.ensures.at_end settled.end).0 settled)
      | else-is_empty w ↦ holds_as rest total r c.settle.new.self left (g.S.Source.left c.args.source.now) w.self-is (ap g.S.Source.left w.source-is) settled
    ] in
    piece_given rest total c.args.self.now r c.give_all.new.self left none c.give_all.ensures holds

pub returns-clause-count : goal.returns-clause-count
returns-clause-count g c = λ h.
    let r = c.if-is_empty.self in
    let first = count_settled c.args.self.now c.settle.new.self c.settle.ensures.marks in
    let none : r.given ≡ 0 =
    elim c.if-is_empty.branch [
      | then-is_empty+in_ok-other+in-Here w ↦ ap (λ (x : LineReader). x.given) w.self-is ∙ w.in_ok-other.ensures.fills.same.1 ∙ c.settle.ensures.marks.given
      | else-is_empty w ↦ ap (λ (x : LineReader). x.given) w.self-is ∙ c.settle.ensures.marks.given
    ] in
    let same : given_count r ≡ given_count c.settle.new.self =
    elim c.if-is_empty.branch [
      | then-is_empty+in_ok-other+in-Here w ↦
          ap given_count w.self-is
          ∙ count_filled c.settle.new.self w.fill.new.self (g.S.Source.left c.args.source.now) (g.S.Source.left w.fill.new.source) _ c.settle.ensures.marks.given w.in_ok-other.ensures.fills
      | else-is_empty w ↦ ap given_count w.self-is
    ] in
    omega (arith, first, same, count_given r c.give_all.new.self none c.give_all.ensures)
