use Rattle.std.proofs.Common.{◌≡◌, take}
use Rattle.std.specs.List.{flat_map}
use Rattle.ask.specs.Asked.{line_of}
use Rattle.ask.proofs.hits.ids_text.Given as goal

abbrev pub invariant-loop-id : goal.invariant-loop-id
invariant-loop-id l = l.text.items ≡ flat_map line_of (take l.id-index l.ids)
