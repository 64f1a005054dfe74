-- What is kept of the packages of advisories (our own).
use Rattle.std.specs.Prelude.{ℕ, List, [], Option, Some, None}
use Rattle.std.specs.Ordering.{nat_cmp, ordering_then}
use Rattle.std.specs.declared.cmp.Ordering.{Ordering}
use Rattle.osv_prim.specs.declared.package.PackageKey.{PackageKey}
use Rattle.multimap.specs.Entries.{values_of}
use Rattle.package_index.specs.Numbers.{number_of}

-- names and ecosystems, and under the numbers of a name and an ecosystem the indexes of advisories
pub record Index : Type 0 where
  pub names : List (List ℕ)
  pub ecosystems : List (List ℕ)
  pub entries : List ((ℕ × ℕ) × ℕ)

-- by the name, then by the ecosystem
abbrev pub key_cmp : ℕ × ℕ → ℕ × ℕ → Ordering
key_cmp a b = ordering_then (nat_cmp a.0 b.0) (nat_cmp a.1 b.1)

abbrev pub under : List ((ℕ × ℕ) × ℕ) → Option ℕ → Option ℕ → List ℕ
under entries (Some name) (Some ecosystem) = values_of key_cmp entries (name, ecosystem)
under entries (Some name) None = []
under entries None ecosystem = []

-- what an index has under a package
abbrev pub found : Index → PackageKey → List ℕ
found index asked = under index.entries (number_of index.names asked.name) (number_of index.ecosystems asked.ecosystem)
