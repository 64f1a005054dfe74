use Rattle.line_input.specs.Lines.{numbered}
use Rattle.ask.proofs.Reading.{finds_hits}
use Rattle.ask.proofs.hits.hits_of_lines.Goals as goal

pub returns-clause-ids : goal.returns-clause-ids
returns-clause-ids g c = λ input s.
    let f = c.in_ok-found.ensures.found input s in
    finds_hits c.args.subject.now input (numbered 1 input) c.args.reader.now.limit c.in_ok-found.found c.in_ok-into_vec.field-0.items f.0 f.1 c.in_ok-into_vec.ensures
