use Rattle.std.proofs.Common.{◌≡◌, List, length, drop, ap, sym, ◌∙◌}
use Rattle.std.specs.Prelude.{is_some}
use Rattle.std.specs.Arc.{arc_value}
use Rattle.std.specs.declared.vec.Vec.{Vec}
use Rattle.std.proofs.Math.Seq.{drop-append_seam}
use Rattle.evaluate.specs.Hits.{Repo, graph_of}
use Rattle.history.specs.declared.past.Past.{Past}
use Rattle.history.specs.Lookups.{has_grow}
use Rattle.impact_job.specs.declared.tables.Tables.{Tables}
use Rattle.impact_job.specs.Tables.{repos_seen, has_repo}
use Rattle.impact_job.proofs.Graphs.{planned_graphs}
use Rattle.impact_job.proofs.Lookups.{put-has}
use Rattle.impact_job.proofs.by_repo.Graphs.of.Goals as goal

pub returns : goal.returns
returns c = λ b p x.
    let added = c.as_slice-added.result.now in
    let base = ap repos_seen (c.as_slice.ensures.value ∙ ap (λ (v : Vec _ _). v.items) (c.deref-2.ensures ∙ ap (λ (t : Tables). arc_value t.repos) c.deref.ensures)) ∙ x.base.grown in
    let came : x.came ≡ drop (length b) p = sym (ap (drop (length b)) x.whole ∙ drop-append_seam b x.came) in
    record {
      front = (x.came, sym x.whole);
      all = c.in_ok-all.ensures ∙ planned_graphs b p (repos_seen c.as_slice.result.now) (repos_seen added) (repos_seen c.args.prefix.now.grown.items) base (ap repos_seen c.as_slice-added.ensures.value) x.grown;
      grown = λ key.
          ap (λ (gs : List Repo). is_some (graph_of gs key)) c.in_ok-grown.ensures ∙ put-has (repos_seen added) key
          ∙ ap (λ (gs : List Repo). has_repo gs key) (ap repos_seen c.as_slice-added.ensures.value)
          ∙ x.grew key ∙ ap (λ (q : List Past). has_grow q key) came;
      none = c.in_ok-none.ensures.ok ∙ c.in_ok-empty.ensures;
    }
