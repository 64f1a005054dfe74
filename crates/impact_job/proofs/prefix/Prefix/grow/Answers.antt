use Rattle.std.proofs.Common.{◌≡◌, List, [], ◌∷◌, ◌++◌, ap, sym, ◌∙◌, append_assoc, arith}
use Rattle.std.proofs.lemmas.List.{map-append}
use Rattle.std.specs.Arc.{arc_value}
use Rattle.osv_prim.specs.declared.oid.CommitRow.{CommitRow}
use Rattle.evaluate.specs.Hits.{Repo}
use Rattle.history.specs.declared.past.Past.{Past}
use Rattle.history.specs.declared.past.Past.TheVariants.{Grow}
use Rattle.history.specs.Prefixes.{graphs}
use Rattle.impact_job.specs.Tables.{repos_seen, with_graph, with_graphs, has_repo}
use Rattle.impact_job.proofs.Graphs.{with_graphs-append, graphs-grow}
use Rattle.impact_job.proofs.Lookups.{grew-more}
use Rattle.impact_job.proofs.Prefixes.{advisories-stay, length-push}
use Rattle.impact_job.proofs.prefix.Prefix.grow.Goals as goal

pub returns-clause-ok : goal.returns-clause-ok
returns-clause-ok c = λ b p by rows x is.
    let key : List _ = c.args.key in
    let g : List CommitRow = arc_value c.args.whole in
    let more : List Past = Grow by key rows ∷ [] in
    let pushed : repos_seen c.push.new.self.items ≡ repos_seen c.args.self.now.grown.items ++ (key, g) ∷ [] =
    ap repos_seen c.in_ok-push.ensures.items ∙ map-append _ c.args.self.now.grown.items ((c.args.key, c.args.whole) ∷ [])
    in
    record {
      base = x.base;
      came = x.came ++ more;
      whole = ap (λ (q : List Past). q ++ more) x.whole ∙ append_assoc b x.came more;
      added = x.added ∙ sym (advisories-stay x.came by key rows);
      grown =
          ap (λ (gs : List Repo). with_graphs (graphs b) gs) pushed
          ∙ with_graphs-append (graphs b) (repos_seen c.args.self.now.grown.items) ((key, g) ∷ [])
          ∙ ap (λ (gs : List Repo). with_graph gs key g) x.grown ∙ sym (graphs-grow p by key rows g is);
      grew = λ u. ap (λ (gs : List Repo). has_repo gs u) pushed ∙ grew-more x.came by key rows g (repos_seen c.args.self.now.grown.items) x.grew u;
      upto = omega (arith, c.in-Some.ensures, x.upto, length-push p (Grow by key rows));
    }
