-- What is noted of an advisory (our own, over OSV schema 1.6, "affected[].ranges[].events" and "Evaluation").
use Rattle.std.specs.Prelude.{ℕ, ◌+◌, ◌==◌, Bool, true, false, not, ◌&&◌, List, [], ◌∷◌, ◌++◌, length, Option, Some, None, is_some, if◌then◌else◌, codes}
use Rattle.std.specs.List.{list_any, list_all}
use Rattle.osv_prim.specs.Graphs.{is_kind, is_read}
use Rattle.osv_prim.specs.declared.event.Event.{Event}
use Rattle.osv_prim.specs.declared.event.EventKind.{EventKind}
use Rattle.osv_prim.specs.declared.event.EventKind.TheVariants.{Fixed, LastAffected}
use Rattle.osv_prim.specs.declared.event.RangeKind.{RangeKind}
use Rattle.osv_prim.specs.declared.event.RangeKind.TheVariants as kinds
use Rattle.osv_prim.specs.declared.package.PackageKey.{PackageKey}
use Rattle.osv_record.specs.Advisories.{Extent, Entry, Advisory, is_git}
use Rattle.version_order.specs.Bounds.{bounds_of}
use Rattle.version_order.specs.Orders.{order_of}
use Rattle.version_order.specs.declared.order.Order.{Order}
use Rattle.record_check.specs.declared.notice.Notice.{Notice}
use Rattle.record_check.specs.declared.notice.NoticeKind.{NoticeKind}
use Rattle.record_check.specs.declared.notice.NoticeKind.TheVariants.{FixedAndLast, NoOrder, UnreadEvent, NoPackage, NothingListed}

abbrev pub notice_code : NoticeKind → ℕ
notice_code FixedAndLast = 1
notice_code NoOrder = 2
notice_code UnreadEvent = 3
notice_code NoPackage = 4
notice_code NothingListed = 5

abbrev pub notice_name : NoticeKind → List ℕ
notice_name FixedAndLast = codes "FixedAndLast"
notice_name NoOrder = codes "NoOrder"
notice_name UnreadEvent = codes "UnreadEvent"
notice_name NoPackage = codes "NoPackage"
notice_name NothingListed = codes "NothingListed"

-- a notice, where it holds
abbrev pub noted : Bool → NoticeKind → ℕ → Option ℕ → List Notice
noted holds kind entry range = if holds then (record { kind = kind; entry = entry; range = range }) ∷ [] else []

abbrev pub has_kind : EventKind → List Event → Bool
has_kind kind events = list_any (λ (e : Event). is_kind kind e.kind) events

-- a fixed event, and a last affected one
abbrev pub says_two_ends : List Event → Bool
says_two_ends events = has_kind Fixed events && has_kind LastAffected events

-- the order of a range's versions; without a package none but that of semantic versions
abbrev pub order_in : Option PackageKey → Extent → Option Order
order_in None r = order_of r.kind []
order_in (Some p) r = order_of r.kind p.ecosystem

abbrev pub is_of_ecosystem : RangeKind → Bool
is_of_ecosystem kinds.SemVer = false
is_of_ecosystem kinds.Ecosystem = true
is_of_ecosystem kinds.Git = false

-- a range in the order of its ecosystem, where that has none
abbrev pub has_no_order : Option Order → Extent → Bool
has_no_order order r = is_of_ecosystem r.kind && not (is_some order)

-- a value that the order can't read, or that is no commit's id in a GIT range
abbrev pub has_unread : Option Order → Extent → Bool
has_unread None r = is_git r.kind && not (list_all is_read r.events)
has_unread (Some o) r = not (is_some (bounds_of o r.events))

unfoldable pub range_notices : ℕ → Option PackageKey → ℕ → Extent → List Notice
range_notices entry p at r =
    noted (says_two_ends r.events) FixedAndLast entry (Some at)
    ++ noted (has_no_order (order_in p r) r) NoOrder entry (Some at)
    ++ noted (has_unread (order_in p r) r) UnreadEvent entry (Some at)

-- of the ranges, where the first has number `at`
abbrev pub ranges_notices : ℕ → Option PackageKey → ℕ → List Extent → List Notice
ranges_notices entry p at [] = []
ranges_notices entry p at (r ∷ rest) = range_notices entry p at r ++ ranges_notices entry p (at + 1) rest

abbrev pub lists_nothing : Entry → Bool
lists_nothing a = (length a.ranges == 0) && (length a.versions == 0)

unfoldable pub entry_notices : ℕ → Entry → List Notice
entry_notices entry a =
    noted (not (is_some a.«package»)) NoPackage entry None ++ noted (lists_nothing a) NothingListed entry None
    ++ ranges_notices entry a.«package» 0 a.ranges

-- of the entries, where the first has number `entry`
abbrev pub entries_notices : ℕ → List Entry → List Notice
entries_notices entry [] = []
entries_notices entry (a ∷ rest) = entry_notices entry a ++ entries_notices (entry + 1) rest

-- by entry, then what is of the whole entry, then by range, then by number
abbrev pub notices : Advisory → List Notice
notices r = entries_notices 0 r.affected
