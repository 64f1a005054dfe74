-- The members of a query as texts, before it is asked what they mean (OSV.dev API v1, "POST /v1/query"; that null and
-- the empty text count as absent, and the order of the tests, is our own). The tests stand in the order in which they
-- are made.
use Rattle.std.specs.Prelude.{ℕ, Bool, false, List, length, ◌==◌, Option, Some, None, option_and_then, option_map, Result, Ok, if◌then◌else◌, codes}
use Rattle.serde_json.specs.Data.{Data}
use Rattle.serde_json.specs.Find.{as_object, as_str}
use Rattle.json_view.specs.Json.{named}
use Rattle.osv_prim.specs.Results.{◌>>=◌, or_refuse}
use Rattle.query_json.specs.declared.fault.Member.{Member}
use Rattle.query_json.specs.declared.fault.Member.TheVariants as member
use Rattle.query_json.specs.declared.fault.QueryFault.{QueryFault}
use Rattle.query_json.specs.declared.fault.QueryFault.TheVariants as refusal
use Rattle.query_json.specs.declared.members as code

abbrev pub is_empty_text : Option (List ℕ) → Bool
is_empty_text None = false
is_empty_text (Some text) = length text == 0

abbrev pub full : Data → Option Data
full d = if is_empty_text (as_str d) then None else Some d

-- what an object has under a name, where that is neither null nor the empty text
abbrev pub there : List ℕ → Data → Option Data
there name d = option_and_then full (named name d)

-- what is there, read, or its refusal; nothing where nothing is there
abbrev pub if_there : {A B : Type 0} → QueryFault → (A → Option B) → Option A → Result (Option B) QueryFault
if_there e read None = Ok None
if_there e read (Some x) = or_refuse e (read x) >>= λ y. Ok (Some y)

-- the text under a name
unfoldable pub text_under : List ℕ → Member → Data → Result (Option (List ℕ)) QueryFault
text_under name m d = if_there (refusal.WrongType m) as_str (there name d)

abbrev pub as_itself : Data → Option Data
as_itself d = option_map (λ _. d) (as_object d)

-- the object under `package`
unfoldable pub package_under : Data → Result (Option Data) QueryFault
package_under d = if_there (refusal.WrongType member.Package) as_itself (there (codes "package") d)

pub record PackageMembers : Type 0 where
  pub name : Option (List ℕ)
  pub ecosystem : Option (List ℕ)
  pub purl : Option (List ℕ)

pub record Members : Type 0 where
  pub commit : Option (List ℕ)
  pub «package» : Option PackageMembers
  pub version : Option (List ℕ)
  pub page_token : Option (List ℕ)

abbrev pub members_of_package : Data → Result PackageMembers QueryFault
members_of_package d =
    text_under (codes "name") member.Name d >>= λ name. text_under (codes "ecosystem") member.Ecosystem d >>= λ ecosystem.
    text_under (codes "purl") member.Purl d >>= λ purl. Ok (record { name = name; ecosystem = ecosystem; purl = purl })

unfoldable pub package_members : Option Data → Result (Option PackageMembers) QueryFault
package_members None = Ok None
package_members (Some d) = members_of_package d >>= λ members. Ok (Some members)

-- the members of a query, where it is an object and each has its JSON type
unfoldable pub members_of : Data → Result Members QueryFault
members_of d =
    or_refuse refusal.NotObject (as_itself d) >>= λ query.
    text_under (codes "commit") member.Commit query >>= λ commit. package_under query >>= λ object.
    text_under (codes "version") member.Version query >>= λ version.
    text_under (codes "page_token") member.PageToken query >>= λ page_token. package_members object >>= λ about.
    Ok (record { commit = commit; «package» = about; version = version; page_token = page_token })

-- ---- the same, as the code keeps them

abbrev pub package_members_in : code.PackageMembers.PackageMembers → PackageMembers
package_members_in p = record { name = option_map (λ t. t.now) p.name; ecosystem = option_map (λ t. t.now) p.ecosystem; purl = option_map (λ t. t.now) p.purl }

abbrev pub members_in : code.Members.Members → Members
members_in m = record { commit = option_map (λ t. t.now) m.commit; «package» = option_map package_members_in m.«package»; version = option_map (λ t. t.now) m.version; page_token = option_map (λ t. t.now) m.page_token }
