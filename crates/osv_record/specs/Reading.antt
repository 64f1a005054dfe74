-- The advisory that bytes are, or the first refusal (OSV schema 1.6; the order of the tests is our own). The tests stand
-- in the order in which they are made.
use Rattle.std.specs.Prelude.{ℕ, Bool, true, false, List, [], length, Option, Some, None, is_some, option_and_then, Result, Ok, Err, nat_lt, if◌then◌else◌, codes, ℤ}
use Rattle.std.specs.List.{list_any}
use Rattle.std.specs.Str.{bytes_eq}
use Rattle.serde_json.specs.Data.{Data}
use Rattle.serde_json.specs.Find.{as_str, as_object}
use Rattle.json_view.specs.Json.{json, named, as_list}
use Rattle.osv_prim.specs.Ids.{is_id}
use Rattle.osv_prim.specs.Packages.{normal_name}
use Rattle.osv_prim.specs.Repos.{normal_repo}
use Rattle.osv_prim.specs.Results.{◌>>=◌, each, or_refuse}
use Rattle.osv_prim.specs.declared.event.Event.{Event}
use Rattle.osv_prim.specs.declared.event.EventKind.{EventKind}
use Rattle.osv_prim.specs.declared.event.EventKind.TheVariants.{Introduced, Fixed, LastAffected, Limit}
use Rattle.osv_prim.specs.declared.event.RangeKind.{RangeKind}
use Rattle.osv_prim.specs.declared.event.RangeKind.TheVariants.{SemVer, Ecosystem, Git}
use Rattle.osv_prim.specs.declared.package.PackageKey.{PackageKey}
use Rattle.osv_time.specs.Times.{time_of}
use Rattle.osv_record.specs.declared.fault.RecordFault.{RecordFault}
use Rattle.osv_record.specs.declared.fault.RecordFault.TheVariants as refusal
use Rattle.osv_record.specs.declared.fault.Member.{Member}
use Rattle.osv_record.specs.declared.fault.Member.TheVariants as member
use Rattle.osv_record.specs.Advisories.{Extent, Entry, Advisory, is_git}

abbrev pub most_bytes : ℕ
most_bytes = 16777216

-- what passes the test, or the refusal
abbrev pub when : {A : Type 0} → Bool → RecordFault → A → Result A RecordFault
when passes e x = if passes then Ok x else Err e

abbrev pub is_object : Data → Bool
is_object d = is_some (as_object d)

abbrev pub is_full : List ℕ → Bool
is_full text = nat_lt 0 (length text)

-- a text that is not empty
unfoldable pub full_text : RecordFault → Option Data → Result (List ℕ) RecordFault
full_text e found = or_refuse e (option_and_then as_str found) >>= λ text. when (is_full text) e text

-- a list, or none where nothing is there
abbrev pub list_or_none : Member → Option Data → Result (List Data) RecordFault
list_or_none m None = Ok []
list_or_none m (Some d) = or_refuse (refusal.WrongType m) (as_list d)

-- ---- events

-- the one of four that is there, where exactly one is
abbrev pub the_one : Option Data → Option Data → Option Data → Option Data → Option (EventKind × Data)
the_one (Some d) None None None = Some (Introduced, d)
the_one None (Some d) None None = Some (Fixed, d)
the_one None None (Some d) None = Some (LastAffected, d)
the_one None None None (Some d) = Some (Limit, d)
the_one a b c d = None

unfoldable pub event_said : Data → Option (EventKind × Data)
event_said d = the_one (named (codes "introduced") d) (named (codes "fixed") d) (named (codes "last_affected") d) (named (codes "limit") d)

abbrev pub event_from : EventKind × Data → Result Event RecordFault
event_from said = full_text refusal.BadEvent (Some said.1) >>= λ value. Ok (record { kind = said.0; value = value })

unfoldable pub event_of : Data → Result Event RecordFault
event_of d = or_refuse refusal.BadEvent (event_said d) >>= event_from

abbrev pub is_introduced : EventKind → Bool
is_introduced Introduced = true
is_introduced Fixed = false
is_introduced LastAffected = false
is_introduced Limit = false

abbrev pub has_introduced : List Event → Bool
has_introduced events = list_any (λ (e : Event). is_introduced e.kind) events

unfoldable pub events_of : Option Data → Result (List Event) RecordFault
events_of found =
    list_or_none member.Events found >>= λ listed. when (nat_lt 0 (length listed)) refusal.NoEvents listed >>= λ some.
    each event_of some >>= λ events. when (has_introduced events) refusal.NoIntroduced events

-- ---- ranges

abbrev pub kind_named : List ℕ → Option RangeKind
kind_named text =
    if bytes_eq text (codes "SEMVER") then Some SemVer
    else (if bytes_eq text (codes "ECOSYSTEM") then Some Ecosystem else (if bytes_eq text (codes "GIT") then Some Git else None))

unfoldable pub kind_of : Option Data → Result RangeKind RecordFault
kind_of found = or_refuse refusal.BadRangeType (option_and_then as_str found) >>= λ text. or_refuse refusal.BadRangeType (kind_named text)

-- the text of `repo`, empty where it is absent
unfoldable pub url_of : Option Data → Result (List ℕ) RecordFault
url_of None = Ok []
url_of (Some d) = or_refuse (refusal.WrongType member.Repo) (as_str d)

-- the repository of a GIT range; that of another range is passed over
unfoldable pub repo_of : RangeKind → List ℕ → Result (Option (List ℕ)) RecordFault
repo_of kind url = if is_git kind then when (is_full url) refusal.GitWithoutRepo (Some (normal_repo url)) else Ok None

unfoldable pub range_of : Data → Result Extent RecordFault
range_of d =
    when (is_object d) (refusal.WrongType member.Range) d >>= λ range.
    kind_of (named (codes "type") range) >>= λ kind.
    url_of (named (codes "repo") range) >>= λ url. repo_of kind url >>= λ repo.
    events_of (named (codes "events") range) >>= λ events.
    Ok (record { kind = kind; repo = repo; events = events })

-- ---- entries

abbrev pub key_of : Data → Result PackageKey RecordFault
key_of d =
    full_text refusal.BadPackage (named (codes "ecosystem") d) >>= λ ecosystem. full_text refusal.BadPackage (named (codes "name") d) >>= λ name.
    Ok (record { ecosystem = ecosystem; name = normal_name ecosystem name })

unfoldable pub package_of : Option Data → Result (Option PackageKey) RecordFault
package_of None = Ok None
package_of (Some d) = key_of d >>= λ key. Ok (Some key)

unfoldable pub version_of : Data → Result (List ℕ) RecordFault
version_of d = or_refuse (refusal.WrongType member.Version) (as_str d)

unfoldable pub entry_of : Data → Result Entry RecordFault
entry_of d =
    when (is_object d) (refusal.WrongType member.Entry) d >>= λ entry.
    package_of (named (codes "package") entry) >>= λ key.
    list_or_none member.Ranges (named (codes "ranges") entry) >>= λ spans. each range_of spans >>= λ ranges.
    list_or_none member.Versions (named (codes "versions") entry) >>= λ listed. each version_of listed >>= λ versions.
    Ok (record { «package» = key; ranges = ranges; versions = versions })

-- ---- advisories

unfoldable pub id_of : Option Data → Result (List ℕ) RecordFault
id_of found =
    or_refuse refusal.NoId found >>= λ d. or_refuse refusal.BadId (as_str d) >>= λ text. when (is_id text) refusal.BadId text

unfoldable pub time_from : RecordFault → Data → Result (ℤ × List ℕ) RecordFault
time_from e d = or_refuse e (as_str d) >>= λ text. or_refuse e (time_of text) >>= λ nanos. Ok (nanos, text)

-- the time of `modified`, and its text
unfoldable pub modified_of : Option Data → Result (ℤ × List ℕ) RecordFault
modified_of found = or_refuse refusal.NoModified found >>= time_from refusal.BadModified

-- whether it says when it was withdrawn
unfoldable pub withdrawn_of : Option Data → Result Bool RecordFault
withdrawn_of None = Ok false
withdrawn_of (Some d) = time_from (refusal.WrongType member.Withdrawn) d >>= λ time. Ok true

unfoldable pub affected_of : Option Data → Result (List Entry) RecordFault
affected_of found = list_or_none member.Affected found >>= each entry_of

unfoldable pub record_of : List ℕ → Data → Result Advisory RecordFault
record_of bytes d =
    when (is_object d) refusal.NotObject d >>= λ advisory.
    id_of (named (codes "id") advisory) >>= λ id. modified_of (named (codes "modified") advisory) >>= λ modified.
    withdrawn_of (named (codes "withdrawn") advisory) >>= λ withdrawn.
    affected_of (named (codes "affected") advisory) >>= λ affected.
    Ok (record { id = id; modified = modified.0; modified_text = modified.1; withdrawn = withdrawn; affected = affected; text = bytes })

unfoldable pub advisory : List ℕ → Result Advisory RecordFault
advisory bytes = if nat_lt most_bytes (length bytes) then Err refusal.TooLarge else (or_refuse refusal.NotJson (json bytes) >>= record_of bytes)
