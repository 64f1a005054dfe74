use Rattle.std.proofs.Common.{◌≡◌, ℕ, List, Option, refl, sym, ap, subst, ◌∙◌}
use Rattle.order_debian.specs.Key as debian_key
use Rattle.order_debian.specs.Reading as debian
use Rattle.order_pypi.specs.Key as pypi_key
use Rattle.order_pypi.specs.Reading as pypi
use Rattle.order_semver.specs.Key as semver_key
use Rattle.order_semver.specs.Reading as semver
use Rattle.version_order.specs.declared.order.Order.TheVariants as orders
use Rattle.version_order.specs.declared.version.Version.TheVariants as versions
use Rattle.osv_record.specs.Advisories.{Extent}
use Rattle.range_eval.specs.declared.compiled.Compiled.{Compiled}
use Rattle.version_order.specs.Orders.{order_of}
use Rattle.std.specs.Prelude.{Some}
use Rattle.range_hits.specs.Bounds.{bounds_in, IsCompiled}
use Rattle.range_hits.proofs.Holding.{range-none}
use Rattle.range_hits.proofs.form.CompiledRange.of.Goals as goal

pub returns-in-None-2 : goal.returns-in-None-2
returns-in-None-2 c =
    let e = c.args.ecosystem.now in
    let ordered = ap (λ (x : Extent). order_of x.kind e) (sym c.range.view_is) ∙ sym c.of.ensures ∙ c.in-Some-SemVer.is ∙ ap Some c.in-Some-SemVer.field-0-is in
    let none =
    ap (λ (x : Extent). bounds_in semver.reading x.events) (sym c.range.view_is) ∙ ap (bounds_in semver.reading) (sym c.as_slice-events.ensures)
    ∙ subst (λ (o : Option (Compiled _)). IsCompiled semver.reading semver_key.key_cmp c.as_slice-events.result.now o) c.in-None-2.is c.in_ok-form-in-Some-SemVer.ensures
    in
    range-none semver_key.key_cmp semver.reading versions.SemVer orders.SemVer (λ a b. refl) (λ t. refl) e c.args.range.now ordered none

pub returns-in-None-3 : goal.returns-in-None-3
returns-in-None-3 c =
    let e = c.args.ecosystem.now in
    let ordered = ap (λ (x : Extent). order_of x.kind e) (sym c.range.view_is) ∙ sym c.of.ensures ∙ c.in-Some-Pypi.is ∙ ap Some c.in-Some-Pypi.field-0-is in
    let none =
    ap (λ (x : Extent). bounds_in pypi.reading x.events) (sym c.range.view_is) ∙ ap (bounds_in pypi.reading) (sym c.as_slice-events.ensures)
    ∙ subst (λ (o : Option (Compiled _)). IsCompiled pypi.reading pypi_key.key_cmp c.as_slice-events.result.now o) c.in-None-3.is c.in_ok-form-in-Some-Pypi.ensures
    in
    range-none pypi_key.key_cmp pypi.reading versions.Pypi orders.Pypi (λ a b. refl) (λ t. refl) e c.args.range.now ordered none

pub returns-in-None-4 : goal.returns-in-None-4
returns-in-None-4 c =
    let e = c.args.ecosystem.now in
    let ordered = ap (λ (x : Extent). order_of x.kind e) (sym c.range.view_is) ∙ sym c.of.ensures ∙ c.in-Some-Debian.is ∙ ap Some c.in-Some-Debian.field-0-is in
    let none =
    ap (λ (x : Extent). bounds_in debian.reading x.events) (sym c.range.view_is) ∙ ap (bounds_in debian.reading) (sym c.as_slice-events.ensures)
    ∙ subst (λ (o : Option (Compiled _)). IsCompiled debian.reading debian_key.key_cmp c.as_slice-events.result.now o) c.in-None-4.is c.in_ok-form-in-Some-Debian.ensures
    in
    range-none debian_key.key_cmp debian.reading versions.Debian orders.Debian (λ a b. refl) (λ t. refl) e c.args.range.now ordered none
