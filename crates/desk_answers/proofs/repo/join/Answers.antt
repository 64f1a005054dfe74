use Rattle.std.proofs.Common.{◌≡◌, List, sym, ap, subst, ◌∙◌, rules}
use Rattle.std.specs.Arc.{arc_value}
use Rattle.osv_prim.specs.declared.oid.CommitRow.{CommitRow}
use Rattle.osv_prim.specs.Graphs.{joined}
use Rattle.commit_graph.specs.Extended.{extended}
use Rattle.desk_calls.specs.Growing as calls
use Rattle.desk_answers.proofs.Joining.{joined-of_version, grows-on}
use Rattle.desk_answers.proofs.repo.join.Goals as goal

pub grow-requires : goal.grow-requires
grow-requires g c =
    let mid = g.D.Desk.caller c.repo_of.new.desk in
    let there : c.deref.result.now ≡ arc_value c.in-Ok.graph = search rules in
    joined-of_version c.args.key c.in-Ok.version mid.front c.args.rows.now c.in-Ok-extend.whole c.in-Ok.ensures.count_is
    (c.in-Ok-extend.ensures.joined ∙ ap (λ (x : List CommitRow). joined x c.args.rows.now) (there ∙ c.in-Ok.ensures.rows_are))

pub returns-in-Ok-extend : goal.returns-in-Ok-extend
returns-in-Ok-extend g c =
    let old = g.D.Desk.caller c.args.desk.now in
    let mid = g.D.Desk.caller c.repo_of.new.desk in
    let there : c.deref.result.now ≡ arc_value c.in-Ok.graph = search rules in
    grows-on old mid (g.D.Desk.caller c.grow.new.desk) c.args.closes c.args.key c.args.most c.in-Ok.version c.args.rows.now c.in-Ok-extend.whole c.grow.result
    (subst (λ (x : List CommitRow). calls.Shown old c.args.key c.in-Ok.version x mid) c.in-Ok.ensures.rows_are c.in-Ok.ensures)
    (ap (λ (x : List CommitRow). extended x c.args.most c.args.rows.now) (sym (there ∙ c.in-Ok.ensures.rows_are)) ∙ c.in-Ok-extend.ensures.value)
    c.grow.ensures
