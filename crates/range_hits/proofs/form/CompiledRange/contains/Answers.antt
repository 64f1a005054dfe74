use Rattle.std.proofs.Common.{◌≡◌, ℕ, List, Option, refl, sym, ap, subst, ◌∙◌}
use Rattle.order_debian.specs.Key as debian_key
use Rattle.order_debian.specs.Reading as debian
use Rattle.order_pypi.specs.Key as pypi_key
use Rattle.order_pypi.specs.Reading as pypi
use Rattle.order_semver.specs.Key as semver_key
use Rattle.order_semver.specs.Reading as semver
use Rattle.version_order.specs.declared.order.Order.TheVariants as orders
use Rattle.version_order.specs.declared.version.Version.TheVariants as versions
use Rattle.range_eval.specs.Compiled.{StandsFor}
use Rattle.range_eval.specs.declared.compiled.Compiled.{Compiled}
use Rattle.range_hits.specs.Forms.{IsFormOf, is_key_in}
use Rattle.range_hits.specs.declared.form.CompiledRange.{CompiledRange}
use Rattle.range_hits.proofs.Holding.{range-in}
use Rattle.range_hits.proofs.form.CompiledRange.contains.Goals as goal

pub returns-in-SemVer : goal.returns-in-SemVer
returns-in-SemVer c = λ ecosystem text extent form read.
    let f = subst (λ (x : CompiledRange). IsFormOf ecosystem extent x) c.in-SemVer.is form in
    let stands = subst (λ (k : Compiled _). StandsFor semver_key.key_cmp k f.1.bounds) (sym c.deref.ensures) f.1.stands in
    c.is_in.ensures f.1.bounds stands ∙ ap (is_key_in semver_key.key_cmp f.1.bounds) read.semver
    ∙ range-in semver_key.key_cmp semver.reading versions.SemVer orders.SemVer (λ a b. refl) (λ t. refl) ecosystem extent f.1.bounds f.0 f.1.read text

pub returns-in-Pypi : goal.returns-in-Pypi
returns-in-Pypi c = λ ecosystem text extent form read.
    let f = subst (λ (x : CompiledRange). IsFormOf ecosystem extent x) c.in-Pypi.is form in
    let stands = subst (λ (k : Compiled _). StandsFor pypi_key.key_cmp k f.1.bounds) (sym c.deref-in-Pypi.ensures) f.1.stands in
    c.is_in-in-Pypi.ensures f.1.bounds stands ∙ ap (is_key_in pypi_key.key_cmp f.1.bounds) read.pypi
    ∙ range-in pypi_key.key_cmp pypi.reading versions.Pypi orders.Pypi (λ a b. refl) (λ t. refl) ecosystem extent f.1.bounds f.0 f.1.read text

pub returns-in-Debian : goal.returns-in-Debian
returns-in-Debian c = λ ecosystem text extent form read.
    let f = subst (λ (x : CompiledRange). IsFormOf ecosystem extent x) c.in-Debian.is form in
    let stands = subst (λ (k : Compiled _). StandsFor debian_key.key_cmp k f.1.bounds) (sym c.deref-in-Debian.ensures) f.1.stands in
    c.is_in-in-Debian.ensures f.1.bounds stands ∙ ap (is_key_in debian_key.key_cmp f.1.bounds) read.debian
    ∙ range-in debian_key.key_cmp debian.reading versions.Debian orders.Debian (λ a b. refl) (λ t. refl) ecosystem extent f.1.bounds f.0 f.1.read text
