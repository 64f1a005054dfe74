use Rattle.std.proofs.Common.{map, sym, ap, ◌∙◌}
use Rattle.repo_index.specs.Index.{Index, all_seen, found, kept_seen, under}
use Rattle.repo_index.proofs.Noting.{found-seen}
use Rattle.repo_index.proofs.index.RepoIndex.under.Goals as goal

pub returns-in-None : goal.returns-in-None
returns-in-None c =
    let key = c.args.key.now in
    sym (ap (under (all_seen c.self.inside.noted)) (sym c.number.ensures ∙ c.in-None.is)) ∙ ap (λ (i : Index). found i key) c.self.view_is

pub returns-in-Some : goal.returns-in-Some
returns-in-Some c =
    let key = c.args.key.now in
    ap (map kept_seen) c.get.ensures ∙ sym (found-seen c.self.inside.noted c.in-Some.number) ∙ sym (ap (under (all_seen c.self.inside.noted)) (sym c.number.ensures ∙ c.in-Some.is))
    ∙ ap (λ (i : Index). found i key) c.self.view_is
