-- The values that a document, a node and the elements of an array show.
use Rattle.std.specs.Prelude.{List, ◌∷◌, drop}
use Rattle.json.specs.Token.{begin_array}
use Rattle.serde_json.specs.Data.{Data}
use Rattle.json_view.specs.Trees.{reading, shown_reading, shown_elements, tokens_from}
use Rattle.json_view.specs.declared.document.Document.{Document}
use Rattle.json_view.specs.declared.node.Node.{Node}
use Rattle.json_view.specs.declared.node.Elements.{Elements}

abbrev pub document_value : Document → Data
document_value d = shown_reading (reading d.tape)

abbrev pub node_value : Node → Data
node_value n = shown_reading (reading (drop n.at n.tape.now))

-- the elements that are still to come
abbrev pub element_values : Elements → List Data
element_values e = shown_elements (reading (begin_array ∷ tokens_from e.tape e.at))
