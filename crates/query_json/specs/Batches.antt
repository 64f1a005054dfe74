-- The queries of a batch, or the first refusal (OSV.dev API v1, "POST /v1/querybatch"; the order of the tests is our
-- own). A refused query is named by its index in the list, from 0.
use Rattle.std.specs.Prelude.{ℕ, List, length, nat_lt, Some, None, option_and_then, Result, Ok, Err, if◌then◌else◌, codes}
use Rattle.std.specs.List.{enumerate_from}
use Rattle.serde_json.specs.Data.{Data}
use Rattle.json_view.specs.Json.{as_list, json, named}
use Rattle.osv_prim.specs.Results.{◌>>=◌, each, or_refuse}
use Rattle.query_json.specs.declared.fault.BatchFault.{BatchFault}
use Rattle.query_json.specs.declared.fault.QueryFault.{QueryFault}
use Rattle.query_json.specs.declared.fault.QueryFault.TheVariants as refusal
use Rattle.query_json.specs.declared.query.Query.{Query}
use Rattle.query_json.specs.Members.{as_itself}
use Rattle.query_json.specs.Queries.{query_of}

abbrev pub most_queries : ℕ
most_queries = 1000

-- a refusal of the batch as a whole
abbrev pub whole : QueryFault → BatchFault
whole fault = record { index = None; fault = fault }

abbrev pub refused_at : {A : Type 0} → ℕ → Result A QueryFault → Result A BatchFault
refused_at index (Ok x) = Ok x
refused_at index (Err fault) = Err (record { index = Some index; fault = fault })

abbrev pub numbered_query : ℕ × Data → Result Query BatchFault
numbered_query numbered = refused_at numbered.0 (query_of numbered.1)

abbrev pub few : List Data → Result (List Data) BatchFault
few listed = if nat_lt most_queries (length listed) then Err (whole refusal.TooManyQueries) else Ok listed

-- the list of queries, of which there are not too many
unfoldable pub list_of_queries : Data → Result (List Data) BatchFault
list_of_queries d =
    or_refuse (whole refusal.NotObject) (as_itself d) >>= λ object.
    or_refuse (whole refusal.NoQueries) (option_and_then as_list (named (codes "queries") object)) >>= few

abbrev pub queries_from : ℕ → List Data → Result (List Query) BatchFault
queries_from index listed = each numbered_query (enumerate_from index listed)

unfoldable pub batch_of : Data → Result (List Query) BatchFault
batch_of d = list_of_queries d >>= queries_from 0

-- the queries that bytes are, or the first refusal
unfoldable pub batch : List ℕ → Result (List Query) BatchFault
batch bytes = or_refuse (whole refusal.NotJson) (json bytes) >>= batch_of
