-- Events, and their values that name no version and no commit (OSV schema 1.6,
-- "affected[].ranges[].events").
use Rattle.std.specs.Prelude.{Bool, true, false, ◌&&◌, ◌||◌, codes}
use Rattle.std.specs.Str.{bytes_eq}
use Rattle.osv_prim.specs.declared.event.Event.{Event}
use Rattle.osv_prim.specs.declared.event.EventKind.{EventKind}
use Rattle.osv_prim.specs.declared.event.EventKind.TheVariants.{Introduced, Fixed, LastAffected, Limit}

abbrev pub is_kind : EventKind → EventKind → Bool
is_kind Introduced Introduced = true
is_kind Fixed Fixed = true
is_kind LastAffected LastAffected = true
is_kind Limit Limit = true
is_kind k other = false

-- an introduced `0`: before each version, and at each commit without parents
abbrev pub is_lowest : Event → Bool
is_lowest e = is_kind Introduced e.kind && bytes_eq e.value (codes "0")

-- a limit `*`: after each version and each commit
abbrev pub is_endless : Event → Bool
is_endless e = is_kind Limit e.kind && bytes_eq e.value (codes "*")

-- one of the two
abbrev pub means_all : Event → Bool
means_all e = is_lowest e || is_endless e
