-- JSON texts as values, and what a value has under a name (RFC 8259).
use Rattle.std.specs.Prelude.{ℕ, List, [], ◌∷◌, Option, Some, None, option_map, option_and_then, if◌then◌else◌}
use Rattle.std.specs.Str.{is_utf8}
use Rattle.serde_json.specs.Data.{Data, null, boolean, number, string, array, object, Items, no_items, item}
use Rattle.serde_json.specs.Find.{get, as_array}
use Rattle.serde_json.specs.Read.{read}

-- the value of bytes, where they are one JSON text in UTF-8
unfoldable pub json : List ℕ → Option Data
json bytes = if is_utf8 bytes then read bytes else None

-- null counts as absent
abbrev pub present : Data → Option Data
present null = None
present (boolean b) = Some (boolean b)
present (number n) = Some (number n)
present (string s) = Some (string s)
present (array ds) = Some (array ds)
present (object ms) = Some (object ms)

-- what an object has under a name
abbrev pub named : List ℕ → Data → Option Data
named name d = option_and_then present (get name d)

abbrev pub list_of : Items → List Data
list_of no_items = []
list_of (item d ds) = d ∷ list_of ds

-- the elements of an array
abbrev pub as_list : Data → Option (List Data)
as_list d = option_map list_of (as_array d)
