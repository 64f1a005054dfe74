use Rattle.std.proofs.Common.{[]}
use Rattle.form_index.proofs.index.FormIndex.build.Goals as goal

pub returns : goal.returns
returns c = c.renewed.ensures [] (λ i j at lt. absurd cc) tt
