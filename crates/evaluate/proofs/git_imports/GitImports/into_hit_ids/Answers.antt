use Rattle.std.proofs.Common.{map, option_map, ap, ◌∙◌}
use Rattle.std.proofs.lemmas.Result.{IfOk-weaker}
use Rattle.std.specs.Arc.{arc_value}
use Rattle.osv_record.specs.Imports.{records}
use Rattle.evaluate.specs.Kept.{KeepsEntries, ids_of_entries}
use Rattle.evaluate.proofs.Commits.{hits_among_kept}
use Rattle.evaluate.proofs.git_imports.GitImports.into_hit_ids.Goals as goal

pub returns : goal.returns
unfolding KeepsEntries
returns g c =
    let repos = map (λ g. (g.0, arc_value g.1)) c.args.repos.now in
    let asked = option_map (λ k. k.now) c.args.asked in
    IfOk-weaker c.hits_among.result _ _
    (λ v h imports kept. h ∙ ap (ids_of_entries repos c.args.commit.now asked) kept ∙ hits_among_kept repos c.args.commit.now asked (records imports))
    c.hits_among.ensures
