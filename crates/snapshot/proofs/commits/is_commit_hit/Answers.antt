use Rattle.std.proofs.Common.{◌≡◌, Bool, Bor, List, ℕ, None, not, ◌&&◌, ap, sym, ◌∙◌}
use Rattle.std.specs.Prelude.{Option, option_map}
use Rattle.std.proofs.lemmas.Bool.{and_parts}
use Rattle.osv_prim.specs.declared.package.PackageKey.{PackageKey}
use Rattle.osv_record.specs.Advisories.{Advisory}
use Rattle.evaluate.specs.Hits.{git_hit}
use Rattle.history.specs.Prefixes.{graphs}
use Rattle.snapshot.specs.Subjects.{is_commit_hit}
use Rattle.snapshot.proofs.commits.is_commit_hit.Goals as goal

pub returns-in-None-clause-hit : goal.returns-in-None-clause-hit
returns-in-None-clause-hit g c = λ p commit at sets known.
    sym (ap (λ (o : Option PackageKey). is_commit_hit (graphs p) commit o c.args.advisory.now) (ap (option_map (λ (k : Bor PackageKey). k.now)) c.in-None.is) ∙ known)

pub returns-in-Some-clause-hit : goal.returns-in-Some-clause-hit
returns-in-Some-clause-hit g c = λ p commit at sets known.
    let r : Advisory = c.args.advisory.now in
    c.git_hit.ensures p commit at sets
    ∙ sym (ap (λ (b : Bool). b && git_hit r (graphs p) commit (option_map (λ k. k.now) c.args.asked)) (and_parts (not r.withdrawn) (git_hit r (graphs p) commit None) known).0)
