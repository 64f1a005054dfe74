use Rattle.std.proofs.Common.{List, [], ◌∷◌, ◌++◌, map, ap, refl, sym, ◌∙◌, append_assoc, arith}
use Rattle.std.proofs.lemmas.List.{map-append}
use Rattle.std.specs.Arc.{arc_value}
use Rattle.osv_record.specs.Advisories.{Advisory}
use Rattle.history.specs.declared.past.Past.{Past}
use Rattle.history.specs.declared.past.Past.TheVariants.{Import}
use Rattle.impact_job.proofs.Prefixes.{advisories-push, graphs-push, length-push}
use Rattle.impact_job.specs.Tables.{repos_seen}
use Rattle.impact_job.proofs.Lookups.{grew-stays}
use Rattle.impact_job.proofs.prefix.Prefix.import.Goals as goal

pub returns-in_ok-push-in-Some-clause-ok : goal.returns-in_ok-push-in-Some-clause-ok
returns-in_ok-push-in-Some-clause-ok c = λ b p by x.
    let r : Advisory = arc_value c.args.advisory in
    record {
      base = x.base;
      came = x.came ++ Import by r ∷ [];
      whole = ap (λ (q : List Past). q ++ Import by r ∷ []) x.whole ∙ append_assoc b x.came (Import by r ∷ []);
      added = ap (map (λ a. arc_value a)) c.in_ok-push-in-Some.ensures.items ∙ map-append (λ a. arc_value a) c.args.self.now.added.items (c.args.advisory ∷ []) ∙ ap (λ (xs : List Advisory). xs ++ r ∷ []) x.added ∙ sym (advisories-push x.came by r);
      grown = x.grown ∙ sym (graphs-push p by r);
      grew = grew-stays x.came (Import by r) (repos_seen c.args.self.now.grown.items) (λ key. refl) x.grew;
      upto = omega (arith, c.in-Some.ensures, x.upto, length-push p (Import by r));
    }
