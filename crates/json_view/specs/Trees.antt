-- The value that a tree of `json` shows, and whether each of its numbers has one.
use Rattle.std.specs.Prelude.{ℕ, suc, ◌-◌, List, [], ◌∷◌, length, drop, Bool, true, ◌&&◌, Option, Some, None, is_some, option_map, option_and_then, nat_lt, if◌then◌else◌}
use Rattle.std.specs.Borrow.{Bor}
use Rattle.json.specs.Token as token
use Rattle.json.specs.Token.{Token}
use Rattle.json.specs.Json as tree
use Rattle.json.specs.Lex.{tokens}
use Rattle.serde_json.specs.Data.{Num, unsigned, Data, null, boolean, number, string, array, object, Items, no_items, item, Members, no_members, put}
use Rattle.serde_json.specs.Read.{number_of, max_depth}
use Rattle.json_view.specs.Json.{as_list}

-- a number, or 0 in place of one that no float can hold
abbrev pub shown_number : Option Num → Data
shown_number None = number (unsigned 0)
shown_number (Some n) = number n

-- The members go in one after another, so the last value of a key stays.
abbrev mutual
  pub shown : tree.Json → Data
  shown tree.null = null
  shown (tree.boolean b) = boolean b
  shown (tree.number s) = shown_number (number_of s)
  shown (tree.string s) = string s
  shown (tree.array js) = array (shown_items js)
  shown (tree.object ms) = object (shown_members ms no_members)

  pub shown_items : tree.Items → Items
  shown_items tree.no_items = no_items
  shown_items (tree.item j js) = item (shown j) (shown_items js)

  pub shown_members : tree.Members → Members → Members
  shown_members tree.no_members found = found
  shown_members (tree.member k j ms) found = shown_members ms (put k (shown j) found)

-- each number has a value
abbrev mutual
  pub fits : tree.Json → Bool
  fits tree.null = true
  fits (tree.boolean b) = true
  fits (tree.number s) = is_some (number_of s)
  fits (tree.string s) = true
  fits (tree.array js) = items_fit js
  fits (tree.object ms) = members_fit ms

  pub items_fit : tree.Items → Bool
  items_fit tree.no_items = true
  items_fit (tree.item j js) = fits j && items_fit js

  pub members_fit : tree.Members → Bool
  members_fit tree.no_members = true
  members_fit (tree.member k j ms) = fits j && members_fit ms

-- the tree of a text, where it is one value and nothing more
unfoldable pub tree_of : List ℕ → Option tree.Json
tree_of text = option_and_then (λ p. tree.if_last p.0 p.1) (tree.value max_depth (tokens text))

-- ---- the places of a text that was read

-- the tree that tokens begin with, which nests no deeper than they are many
abbrev pub reading : List Token → Option tree.Json
reading ts = option_map (λ p. p.0) (tree.value (length ts) ts)

-- what is shown where a value begins
abbrev pub shown_reading : Option tree.Json → Data
shown_reading None = null
shown_reading (Some j) = shown j

abbrev pub listed : Option (List Data) → List Data
listed None = []
listed (Some ds) = ds

-- the elements of an array that begins
abbrev pub shown_elements : Option tree.Json → List Data
shown_elements o = listed (as_list (shown_reading o))

-- the tokens from a place on; where there is no text, those that end an array
abbrev pub tokens_from : Option (Bor (List Token)) → ℕ → List Token
tokens_from None at = token.end_array ∷ []
tokens_from (Some text) at = drop at text.now

-- how deep the next token is, unless this one is too deep or too large
abbrev pub depth_after : ℕ → Token → Option ℕ
depth_after depth token.begin_object = if nat_lt depth max_depth then Some (suc depth) else None
depth_after depth token.end_object = Some (depth - 1)
depth_after depth token.begin_array = if nat_lt depth max_depth then Some (suc depth) else None
depth_after depth token.end_array = Some (depth - 1)
depth_after depth (token.key s) = Some depth
depth_after depth (token.string s) = Some depth
depth_after depth (token.number s) = if is_some (number_of s) then Some depth else None
depth_after depth (token.boolean b) = Some depth
depth_after depth token.null = Some depth
depth_after depth token.bad = Some depth
