use Rattle.std.proofs.Common.{List, Bool, Option, true, false, get_or, sym, ap, ◌∙◌}
use Rattle.std.proofs.lemmas.List.{get_or-replicate}
use Rattle.impact_set.specs.Standing.{through_of}
use Rattle.impact_set.proofs.limits.let_through_rows.Goals as goal

pub limited_rows-requires-in-None-clause-old : goal.limited_rows-requires-in-None-clause-old
limited_rows-requires-in-None-clause-old g c =
    record {
      size = c.in_ok-all-in-None.ensures.size;
      each = λ k lt.
          c.in_ok-all-in-None.ensures.each k lt ∙ sym (get_or-replicate c.args.first k true false lt)
          ∙ ap (λ (o : Option (List Bool)). get_or (through_of c.args.first o) k false) (sym c.in-None.is) ∙ c.requires.old.each k lt;
    }
