-- Versions of three orders (SemVer 2.0.0; PEP 440; Debian Policy, 5.6.12; the order of versions of different
-- orders is our own).
use Rattle.std.specs.Prelude.{ℕ, Bool, List, Option, option_map}
use Rattle.std.specs.Ordering.{eq_by_cmp, nat_cmp}
use Rattle.std.specs.declared.cmp.Ordering.{Ordering}
use Rattle.order_debian.specs.Key as debian_key
use Rattle.order_debian.specs.Reading as debian
use Rattle.order_pypi.specs.Key as pypi_key
use Rattle.order_pypi.specs.Reading as pypi
use Rattle.order_semver.specs.Key as semver_key
use Rattle.order_semver.specs.Reading as semver
use Rattle.version_order.specs.declared.order.Order.{Order}
use Rattle.version_order.specs.declared.order.Order.TheVariants as orders
use Rattle.version_order.specs.declared.version.Version.{Version}
use Rattle.version_order.specs.declared.version.Version.TheVariants.{SemVer, Pypi, Debian}

-- the version that a text spells in an order, if it spells one
abbrev pub reading : Order → List ℕ → Option Version
reading orders.SemVer text = option_map SemVer (semver.reading text)
reading orders.Pypi text = option_map Pypi (pypi.reading text)
reading orders.Debian text = option_map Debian (debian.reading text)

abbrev pub version_order : Version → Order
version_order (SemVer k) = orders.SemVer
version_order (Pypi k) = orders.Pypi
version_order (Debian k) = orders.Debian

abbrev pub rank : Order → ℕ
rank orders.SemVer = 0
rank orders.Pypi = 1
rank orders.Debian = 2

-- Versions of one order compare as it says. Others compare by their orders.
abbrev pub version_cmp : Version → Version → Ordering
version_cmp (SemVer a) (SemVer b) = semver_key.key_cmp a b
version_cmp (SemVer a) (Pypi b) = nat_cmp 0 1
version_cmp (SemVer a) (Debian b) = nat_cmp 0 2
version_cmp (Pypi a) (SemVer b) = nat_cmp 1 0
version_cmp (Pypi a) (Pypi b) = pypi_key.key_cmp a b
version_cmp (Pypi a) (Debian b) = nat_cmp 1 2
version_cmp (Debian a) (SemVer b) = nat_cmp 2 0
version_cmp (Debian a) (Pypi b) = nat_cmp 2 1
version_cmp (Debian a) (Debian b) = debian_key.key_cmp a b

-- equal where neither is less
abbrev pub version_eq : Version → Version → Bool
version_eq = eq_by_cmp version_cmp
