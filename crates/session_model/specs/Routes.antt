-- Which paths there are, by which method each is asked, and what they name (OSV.dev API v1 for those under `/v1/`; the others are our own).
use Rattle.std.specs.Prelude.{ℕ, Bool, List, [], ◌∷◌, length, take, drop, bytes_eq, nat_lt, Option, Some, None, if◌then◌else◌, codes}
use Rattle.std.specs.Str.Lossy.{utf8_lossy}
use Rattle.percent_encoding.specs.Percent.{percent_decode}
use Rattle.form_urlencoded.specs.Form.{decode, raw_pairs}
use Rattle.osv_prim.specs.Repos.{normal_repo}
use Rattle.http_wire.specs.declared.reply.Allow.{Allow}
use Rattle.http_wire.specs.declared.reply.Allow.TheVariants.{Get, Post}
use Rattle.http_wire.specs.declared.request.Request.{Request}
use Rattle.http_wire.specs.Replies.{method_of}
use Rattle.session_model.specs.declared.route.Route.{Route}
use Rattle.session_model.specs.declared.route.Route.TheVariants as routes

-- what stands before the id of an advisory
abbrev pub vulns : List ℕ
vulns = codes "/v1/vulns/"

abbrev pub begins : List ℕ → List ℕ → Bool
begins word text = bytes_eq (take (length word) text) word

-- the route, where the request has the method of its path
abbrev pub by_method : List ℕ → Allow → Route → Route
by_method method allow route = if bytes_eq method (method_of allow) then route else routes.WrongMethod allow

-- where a request leads to
unfoldable pub route_of : Request → Route
route_of q =
    if bytes_eq q.path (codes "/v1/query") then by_method q.method Post routes.Query
    else if bytes_eq q.path (codes "/v1/querybatch") then by_method q.method Post routes.QueryBatch
    else if bytes_eq q.path (codes "/x/import") then by_method q.method Post routes.Import
    else if bytes_eq q.path (codes "/x/repo") then by_method q.method Post routes.Repo
    else if bytes_eq q.path (codes "/x/publish") then by_method q.method Post routes.Publish
    else if begins vulns q.path then by_method q.method Get routes.Vulns
    else routes.NoPath

-- the id that the path of an advisory names
abbrev pub id_of : List ℕ → List ℕ
id_of path = percent_decode (drop (length vulns) path)

-- ---- the repository that a query names (URL Standard, section 5, "application/x-www-form-urlencoded parsing")

-- a name or a value of a form, as text
abbrev pub form_text : List ℕ → List ℕ
form_text bytes = utf8_lossy (decode bytes)

-- the value of the first `url`
abbrev pub url_in : List (List ℕ × List ℕ) → Option (List ℕ)
url_in [] = None
url_in (pair ∷ pairs) = if bytes_eq (form_text pair.0) (codes "url") then Some (form_text pair.1) else url_in pairs

-- the key, which isn't empty
abbrev pub key_if_any : Option (List ℕ) → Option (List ℕ)
key_if_any None = None
key_if_any (Some url) = if nat_lt 0 (length (normal_repo url)) then Some (normal_repo url) else None

-- the key of the repository that is named
unfoldable pub key_of : List ℕ → Option (List ℕ)
key_of query = key_if_any (url_in (raw_pairs query))
