-- The bodies of answers to queries (OSV.dev API v1, "POST /v1/query" and "POST /v1/querybatch"; which members stand in
-- them, and without blanks, is our own).
use Rattle.std.specs.Prelude.{ℕ, ◌-◌, Bool, List, [], ◌∷◌, ◌++◌, length, map, flat_map, nat_lt, slice_get, Option, Some, None, if◌then◌else◌, codes}
use Rattle.std.specs.Arc.{arc_value}
use Rattle.osv_record.specs.Advisories.{Advisory}
use Rattle.page_token.specs.Tokens.{text_of}
use Rattle.reply_json.specs.declared.answer.Answer as code
use Rattle.reply_json.specs.declared.answer.Form.{Form}
use Rattle.reply_json.specs.declared.answer.Form.TheVariants.{Brief, Whole}

-- a page of a query's hits, the snapshot that it is of, and whether hits remain behind it
pub record Answer : Type 0 where
  pub snapshot : ℕ
  pub found : List Advisory
  pub more : Bool

-- an advisory as it came in, or its id and the time that it was modified, as it stands there
abbrev pub advisory_text : Form → Advisory → List ℕ
advisory_text Whole a = a.text
advisory_text Brief a = codes "{\"id\":\"" ++ (a.id ++ (codes "\",\"modified\":\"" ++ (a.modified_text ++ codes "\"}")))

abbrev pub behind_comma : List ℕ → List ℕ
behind_comma text = 44 ∷ text

-- the texts in a row, with a comma between each two
abbrev pub listed : List (List ℕ) → List ℕ
listed [] = []
listed (text ∷ texts) = text ++ flat_map behind_comma texts

-- the token of the last advisory of a page
abbrev pub token_behind : ℕ → Option Advisory → List ℕ
token_behind snapshot None = []
token_behind snapshot (Some last) =
    codes ",\"next_page_token\":\"" ++ (text_of (record { snapshot = snapshot; after = last.id }) ++ codes "\"")

-- where hits remain, the token with which the walk goes on behind the page
abbrev pub next_page : Answer → List ℕ
next_page a = if a.more then token_behind a.snapshot (slice_get a.found (length a.found - 1)) else []

abbrev pub page_text : Form → Answer → List ℕ
page_text form a =
    if nat_lt 0 (length a.found)
    then codes "{\"vulns\":[" ++ (listed (map (advisory_text form) a.found) ++ (codes "]" ++ (next_page a ++ codes "}")))
    else codes "{}"

-- the body of the reply to a query
abbrev pub answer_body : Answer → List ℕ
answer_body a = page_text Whole a

-- the body of the reply to a batch
abbrev pub batch_body : List Answer → List ℕ
batch_body answers = codes "{\"results\":[" ++ (listed (map (page_text Brief) answers) ++ codes "]}")

-- ---- the same, as the code keeps it

abbrev pub answer_in : code.Answer → Answer
answer_in a = record { snapshot = a.snapshot; found = map (λ a. arc_value a.now) a.found.items; more = a.more }
