use Rattle.std.proofs.Common.{List, ℕ, ◌++◌, length, ap, ◌∙◌}
use Rattle.std.specs.Prelude.{codes, decimal}
use Rattle.http_wire.proofs.Replies.{head-text}
use Rattle.http_wire.proofs.head_line.put_head.Goals as goal

pub returns-clause-head : goal.returns-clause-head
returns-clause-head c =
    let number = c.put_number.ensures.line ∙ ap (λ n. c.put-2.new.self ++ (codes "content-length: " ++ (decimal n ++ codes "\r\n"))) c.len.ensures in
    head-text c.args.reply.now c.status_line.result.now c.args.out.now c.put.new.self c.put-2.new.self c.put_number.new.out c.put_snapshot.new.out c.put_allow.new.out c.put_close.new.out c.put-3.new.self
    c.requires.empty c.status_line.ensures.line c.put.ensures c.put-2.ensures number c.put_snapshot.ensures.line c.put_allow.ensures.line c.put_close.ensures.line c.put-3.ensures
