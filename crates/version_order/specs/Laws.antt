-- The order of versions is a total one.
use Rattle.std.specs.Prelude.{◌≡◌, List, [], ◌∷◌, refl}
use Rattle.std.proofs.Common.{subst}
use Rattle.std.specs.Cmp.{IsTotalOrder, nat_cmp_total, on_total, then_total}
use Rattle.std.specs.Cmp.Lexicographic.{lists_total, slice_cmp}
use Rattle.std.specs.Ordering.{nat_cmp, on, ordering_then, then_cmp}
use Rattle.std.specs.declared.cmp.Ordering.{Ordering}
use Rattle.std.specs.declared.cmp.Ordering.TheVariants.{Less, Equal, Greater}
use Rattle.order_debian.specs.Key as debian
use Rattle.order_debian.specs.Laws as debian_laws
use Rattle.order_pypi.specs.Key as pypi
use Rattle.order_pypi.specs.Laws as pypi_laws
use Rattle.order_semver.specs.Key as semver
use Rattle.order_semver.specs.Laws as semver_laws
use Rattle.version_order.specs.declared.version.Version.{Version}
use Rattle.version_order.specs.declared.version.Version.TheVariants.{SemVer, Pypi, Debian}
use Rattle.version_order.specs.Versions.{rank, version_cmp, version_order}

-- a version by its order, and then by the key that it has in each
abbrev semver_keys : Version → List semver.Key
semver_keys (SemVer k) = k ∷ []
semver_keys (Pypi k) = []
semver_keys (Debian k) = []

abbrev pypi_keys : Version → List pypi.Key
pypi_keys (SemVer k) = []
pypi_keys (Pypi k) = k ∷ []
pypi_keys (Debian k) = []

abbrev debian_keys : Version → List debian.Key
debian_keys (SemVer k) = []
debian_keys (Pypi k) = []
debian_keys (Debian k) = k ∷ []

abbrev by_parts : Version → Version → Ordering
by_parts = then_cmp (on (λ (v : Version). rank (version_order v)) nat_cmp) (then_cmp (on semver_keys (slice_cmp semver.key_cmp)) (then_cmp (on pypi_keys (slice_cmp pypi.key_cmp)) (on debian_keys (slice_cmp debian.key_cmp))))

then_equal : (r : Ordering) → ordering_then r Equal ≡ r
then_equal Less = refl
then_equal Equal = refl
then_equal Greater = refl

twice_then_equal : (r : Ordering) → ordering_then (ordering_then r Equal) Equal ≡ r
twice_then_equal Less = refl
twice_then_equal Equal = refl
twice_then_equal Greater = refl

same : (a b : Version) → by_parts a b ≡ version_cmp a b
same (SemVer a) (SemVer b) = twice_then_equal (semver.key_cmp a b)
same (SemVer a) (Pypi b) = refl
same (SemVer a) (Debian b) = refl
same (Pypi a) (SemVer b) = refl
same (Pypi a) (Pypi b) = twice_then_equal (pypi.key_cmp a b)
same (Pypi a) (Debian b) = refl
same (Debian a) (SemVer b) = refl
same (Debian a) (Pypi b) = refl
same (Debian a) (Debian b) = then_equal (debian.key_cmp a b)

pub version_total : IsTotalOrder version_cmp
version_total =
    subst (λ (R : Version → Version → Ordering). IsTotalOrder R) (λ i a b. same a b i)
    (then_total (on_total (λ (v : Version). rank (version_order v)) nat_cmp_total)
    (then_total (on_total semver_keys (lists_total semver_laws.key_total)) (then_total (on_total pypi_keys (lists_total pypi_laws.key_total)) (on_total debian_keys (lists_total debian_laws.key_total)))))
