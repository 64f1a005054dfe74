-- The query that bytes are, or the first refusal (OSV.dev API v1, "POST /v1/query"; which members exclude one another,
-- and the order of the tests, is our own). The tests stand in the order in which they are made.
use Rattle.std.specs.Prelude.{ℕ, List, ◌||◌, Option, Some, None, is_some, Result, Ok, Err, if◌then◌else◌}
use Rattle.std.specs.Result.{result_ok}
use Rattle.serde_json.specs.Data.{Data}
use Rattle.json_view.specs.Json.{json}
use Rattle.osv_prim.specs.Oids.{oid_of}
use Rattle.osv_prim.specs.Results.{◌>>=◌, or_refuse}
use Rattle.osv_prim.specs.declared.package.PackageKey.{PackageKey}
use Rattle.osv_prim.specs.declared.subject.Subject.{Subject}
use Rattle.osv_prim.specs.declared.subject.Subject.TheVariants as subject
use Rattle.page_token.specs.Tokens.{token_of}
use Rattle.purl_name.specs.Purls.{key, purl_of}
use Rattle.purl_name.specs.declared.purl.Purl.{Purl}
use Rattle.query_json.specs.declared.asked.Asked.{Asked}
use Rattle.query_json.specs.declared.fault.QueryFault.{QueryFault}
use Rattle.query_json.specs.declared.fault.QueryFault.TheVariants as refusal
use Rattle.query_json.specs.declared.query.Query.{Query}
use Rattle.query_json.specs.Members.{Members, PackageMembers, if_there, members_of}

-- ---- the package

abbrev pub url_of : Option PackageMembers → Option (List ℕ)
url_of None = None
url_of (Some members) = members.purl

abbrev pub read_purl : List ℕ → Option Purl
read_purl text = result_ok (purl_of text)

-- the version of the package URL or of the query, but not both
abbrev pub one_version : Option (List ℕ) → Option (List ℕ) → Result (Option (List ℕ)) QueryFault
one_version None version = Ok version
one_version (Some v) None = Ok (Some v)
one_version (Some v) (Some w) = Err refusal.BadPackage

-- a package by its package URL, beside which neither name nor ecosystem stands
unfoldable pub by_url : PackageMembers → Purl → Option (List ℕ) → Result Asked QueryFault
by_url members purl version =
    if is_some members.name || is_some members.ecosystem then Err refusal.BadPackage
    else (one_version purl.version version >>= λ one. Ok (record { key = purl.key; version = one }))

-- a package by its ecosystem and name
unfoldable pub by_name : PackageMembers → Option (List ℕ) → Result Asked QueryFault
by_name members version =
    or_refuse refusal.BadPackage members.ecosystem >>= λ ecosystem. or_refuse refusal.BadPackage members.name >>= λ name.
    Ok (record { key = key ecosystem name; version = version })

abbrev pub asked_by : PackageMembers → Option (List ℕ) → Option Purl → Result Asked QueryFault
asked_by members version None = by_name members version
asked_by members version (Some purl) = by_url members purl version

-- the package, and its version where one is asked for
unfoldable pub package_of : Option PackageMembers → Option (List ℕ) → Option Purl → Result (Option Asked) QueryFault
package_of None version purl = Ok None
package_of (Some members) version purl = asked_by members version purl >>= λ asked. Ok (Some asked)

-- ---- what is asked for

abbrev pub commit_in : List ℕ → PackageKey → Option (List ℕ) → Result Subject QueryFault
commit_in commit key None = Ok (subject.CommitIn commit key)
commit_in commit key (Some version) = Err refusal.CommitWithVersion

-- a package, a commit, or a commit as one of a package; a commit has no version
unfoldable pub subject_of : Option (List ℕ) → Option Asked → Option (List ℕ) → Result Subject QueryFault
subject_of None None version = Err refusal.NoSubject
subject_of None (Some asked) version = Ok (subject.Package asked.key asked.version)
subject_of (Some commit) None None = Ok (subject.Commit commit)
subject_of (Some commit) None (Some version) = Err refusal.CommitWithVersion
subject_of (Some commit) (Some asked) version = commit_in commit asked.key asked.version

unfoldable pub meaning_of : Members → Result Query QueryFault
meaning_of m =
    if_there refusal.BadCommit oid_of m.commit >>= λ commit. if_there refusal.BadPurl read_purl (url_of m.«package») >>= λ purl.
    package_of m.«package» m.version purl >>= λ asked. subject_of commit asked m.version >>= λ subject.
    if_there refusal.BadToken token_of m.page_token >>= λ page. Ok (record { subject = subject; page = page })

-- the query that a JSON value is, or the first refusal
unfoldable pub query_of : Data → Result Query QueryFault
query_of d = members_of d >>= meaning_of

-- the query that bytes are, or the first refusal
unfoldable pub query : List ℕ → Result Query QueryFault
query bytes = or_refuse refusal.NotJson (json bytes) >>= query_of
