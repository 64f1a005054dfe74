use Rattle.std.proofs.Common.{◌≡◌, [], List, refl, ap, sym, subst, ◌∙◌}
use Rattle.std.specs.Arc.{arc_value}
use Rattle.std.specs.List.{AllZip}
use Rattle.std.specs.declared.vec.Vec.{Vec}
use Rattle.id_index.specs.Heads.{IsIndexOf}
use Rattle.impact_job.specs.declared.tables.Tables.{Tables}
use Rattle.impact_job.specs.Tables.{StandsFor, AreSetsOf, seen, repos_seen}
use Rattle.package_index.specs.Listing.{listed}
use Rattle.form_index.specs.Index.{AreIndexed}
use Rattle.snapshot.proofs.snapshot.Snapshot.empty.Goals as goal

pub returns : goal.returns
returns c =
    let none : (arc_value (arc_value c.in_ok-new-3.field-0).records).items ≡ [] =
    ap (λ (t : Tables). (arc_value t.records).items) c.in_ok-new-3.ensures.ok ∙ ap (λ (v : Vec _ _). v.items) c.in_ok-new.ensures.ok ∙ c.new.ensures.items in
    record {
      stands =
          record {
            tables =
                subst (λ (t : Tables). StandsFor t []) (sym c.in_ok-new-3.ensures.ok)
                (record {
                  upto = refl;
                  kept = ap (λ (v : Vec _ _). seen v.items) c.in_ok-new.ensures.ok ∙ ap seen c.new.ensures.items;
                  grown = ap (λ (v : Vec _ _). repos_seen v.items) c.in_ok-new-2.ensures.ok ∙ ap repos_seen c.new-3.ensures.items;
                  sets = subst (λ (sets : List (List _)). AllZip (AreSetsOf []) [] sets) (sym c.new-5.ensures.items) tt;
                });
            packages = λ asked. c.in_ok-build.ensures asked ∙ ap (λ (rs : List _). listed (seen rs) asked) (sym none);
            repos = c.in_ok-build-2.ensures [] refl tt;
            ranges = subst (λ (rs : List _). AreIndexed (seen rs) c.in_ok-build-3.field-0) (sym none) c.in_ok-build-3.ensures;
            ids = subst (λ (rs : List _). IsIndexOf c.in_ok-build-4.field-0 (seen rs)) (sym none) c.in_ok-build-4.ensures;
          };
    }
