-- Which order the versions of a range have (OSV schema 1.6, "affected[].ranges[].type"; which ecosystems have
-- an order here is our own).
use Rattle.std.specs.Prelude.{ℕ, List, ◌||◌, Option, Some, None, if◌then◌else◌, codes}
use Rattle.std.specs.Str.{bytes_eq}
use Rattle.osv_prim.specs.Packages.{base}
use Rattle.osv_prim.specs.declared.event.RangeKind.{RangeKind}
use Rattle.osv_prim.specs.declared.event.RangeKind.TheVariants as kinds
use Rattle.version_order.specs.declared.order.Order.{Order}
use Rattle.version_order.specs.declared.order.Order.TheVariants.{SemVer, Pypi, Debian}

-- the order of the versions of an ecosystem
abbrev pub ecosystem_order : List ℕ → Option Order
ecosystem_order name =
    if bytes_eq name (codes "PyPI") then Some Pypi
    else if bytes_eq name (codes "Debian") || bytes_eq name (codes "Ubuntu") then Some Debian
    else if bytes_eq name (codes "npm") || bytes_eq name (codes "crates.io") || bytes_eq name (codes "Go") then Some SemVer
    else None

-- Semantic versions have one order. An ecosystem's is that of its base, and commits have none.
abbrev pub order_of : RangeKind → List ℕ → Option Order
order_of kinds.SemVer ecosystem = Some SemVer
order_of kinds.Ecosystem ecosystem = ecosystem_order (base ecosystem)
order_of kinds.Git ecosystem = None
