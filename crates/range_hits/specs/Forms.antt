-- What the compiled forms of ranges stand for (our own).
use Rattle.std.specs.Prelude.{◌≡◌, ℕ, Bool, false, List, [], ◌∷◌, ◌++◌, map, Option, Some, None, ⊤}
use Rattle.std.specs.List.{AllZip}
use Rattle.std.specs.declared.cmp.Ordering.{Ordering}
use Rattle.osv_prim.specs.Ranges.{in_range}
use Rattle.osv_prim.specs.declared.bound.Bound.{Bound}
use Rattle.osv_prim.specs.declared.event.EventKind.{EventKind}
use Rattle.osv_prim.specs.declared.package.PackageKey.{PackageKey}
use Rattle.osv_record.specs.Advisories.{Advisory, Entry, Extent}
use Rattle.order_debian.specs.Key as debian_key
use Rattle.order_debian.specs.Reading as debian
use Rattle.order_pypi.specs.Key as pypi_key
use Rattle.order_pypi.specs.Reading as pypi
use Rattle.order_semver.specs.Key as semver_key
use Rattle.order_semver.specs.Reading as semver
use Rattle.version_order.specs.Orders.{order_of}
use Rattle.version_order.specs.declared.order.Order.{Order}
use Rattle.version_order.specs.declared.order.Order.TheVariants as orders
use Rattle.evaluate.specs.Hits.{range_contains}
use Rattle.range_hits.specs.Bounds.{IsForm}
use Rattle.range_hits.specs.declared.asked.AskedVersion.{AskedVersion}
use Rattle.range_hits.specs.declared.form.CompiledRange.{CompiledRange}
use Rattle.range_hits.specs.declared.form.CompiledRange.TheVariants.{SemVer, Pypi, Debian, Nothing}

-- the version could be read, and is in the range of these bounds
abbrev pub is_key_in : {K : Type 0} → (K → K → Ordering) → List (EventKind × Bound K) → Option K → Bool
is_key_in cmp bounds None = false
is_key_in cmp bounds (Some key) = in_range cmp key bounds

-- a version as it reads in each order
pub record IsReadOf (keys : AskedVersion) (text : List ℕ) : Type 0 where
  pub semver : keys.semver ≡ semver.reading text
  pub pypi : keys.pypi ≡ pypi.reading text
  pub debian : keys.debian ≡ debian.reading text

-- the form is that of a range of an ecosystem's package: the range has the form's order, and the form stands for its events; or it contains no version
abbrev pub IsFormOf : List ℕ → Extent → CompiledRange → Type 0
IsFormOf ecosystem extent (SemVer c) = (order_of extent.kind ecosystem ≡ Some orders.SemVer) × IsForm semver.reading semver_key.key_cmp extent.events c.value
IsFormOf ecosystem extent (Pypi c) = (order_of extent.kind ecosystem ≡ Some orders.Pypi) × IsForm pypi.reading pypi_key.key_cmp extent.events c.value
IsFormOf ecosystem extent (Debian c) = (order_of extent.kind ecosystem ≡ Some orders.Debian) × IsForm debian.reading debian_key.key_cmp extent.events c.value
IsFormOf ecosystem extent Nothing = (text : List ℕ) → range_contains ecosystem text extent ≡ false

-- a range beside the package of its entry
abbrev pub Ranged : Type 0
Ranged = Option PackageKey × Extent

abbrev pub with_package : Option PackageKey → List Extent → List Ranged
with_package key extents = map (λ extent. (key, extent)) extents

-- the ranges of entries, by entry and range
abbrev pub ranges_of : List Entry → List Ranged
ranges_of [] = []
ranges_of (entry ∷ later) = with_package entry.«package» entry.ranges ++ ranges_of later

-- a range of no package is asked for by none
abbrev pub IsFormIn : Ranged → CompiledRange → Type 0
IsFormIn (None, extent) form = ⊤
IsFormIn (Some key, extent) form = IsFormOf key.ecosystem extent form

-- the forms are those of an advisory's ranges, by entry and range
abbrev pub AreFormsOf : Advisory → List CompiledRange → Type 0
AreFormsOf advisory forms = AllZip IsFormIn (ranges_of advisory.affected) forms
