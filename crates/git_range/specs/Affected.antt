-- Which commits a GIT range affects, from row to row (OSV schema 1.6, "affected[].ranges[].events" and
-- "Evaluation"). The rows are taken from the newest to the oldest.
use Rattle.std.specs.Prelude.{ℕ, Bool, false, not, ◌&&◌, ◌||◌, ◌==◌, if◌then◌else◌, List, [], ◌∷◌, length, reverse}
use Rattle.std.specs.List.{list_any, list_all}
use Rattle.std.specs.Option.{option_map_or}
use Rattle.std.specs.Str.{bytes_eq}
use Rattle.osv_prim.specs.Oids.{oid_of}
use Rattle.osv_prim.specs.Graphs.{is_kind, is_named, is_read, names_all, has_limit}
use Rattle.osv_prim.specs.declared.oid.CommitRow.{CommitRow}
use Rattle.osv_prim.specs.declared.event.Event.{Event}
use Rattle.osv_prim.specs.declared.event.EventKind.TheVariants.{Introduced, Fixed, LastAffected, Limit}

-- a range begins at this row's commit
abbrev pub is_start : List Event → CommitRow → Bool
is_start events r = is_named Introduced events r.oid || (names_all Introduced events && (length r.parents == 0))

-- the commit isn't fixed, and the range begins there, or one of its parents that isn't a last affected commit is reached
abbrev pub reaches : List Event → List CommitRow → List ℕ → Bool
reaches events [] c = false
reaches events (r ∷ older) c =
    if bytes_eq c r.oid
    then not (is_named Fixed events c) && (is_start events r || list_any (λ p. not (is_named LastAffected events p) && reaches events older p) r.parents)
    else reaches events older c

-- the first commit is a proper ancestor of the second
abbrev pub leads : List CommitRow → List ℕ → List ℕ → Bool
leads [] a c = false
leads (r ∷ older) a c = if bytes_eq c r.oid then list_any (λ p. bytes_eq a p || leads older a p) r.parents else leads older a c

-- no limit is given, or one is `*`, or the commit is a proper ancestor of one
abbrev pub is_within_limits : List CommitRow → List Event → List ℕ → Bool
is_within_limits graph events c =
    not (has_limit events) || names_all Limit events
    || list_any (λ e. is_kind Limit e.kind && option_map_or (λ limit. leads (reverse graph) c limit) (oid_of e.value) false) events

-- every event can be read, the limits let the commit through, and the range reaches it
unfoldable pub is_affected : List CommitRow → List Event → List ℕ → Bool
is_affected graph events c = list_all is_read events && is_within_limits graph events c && reaches events (reverse graph) c
