use Rattle.std.proofs.Common.{ap, ◌∙◌}
use Rattle.std.specs.Option.{is_some}
use Rattle.std.specs.Str.{bytes_eq}
use Rattle.osv_prim.proofs.Cuts.{found}
use Rattle.osv_prim.proofs.lists.Lists+u8.contains.Goals as goal

pub returns : goal.returns
returns c = c.is_some.ensures ∙ ap is_some c.position.ensures ∙ found (bytes_eq c.args.text.now) c.args.self.now
