use Rattle.std.proofs.Common.{◌∙◌, ℕ, List, sym, ap}
use Rattle.std.proofs.lemmas.Bool.{true≢false}
use Rattle.edge_io.specs.Memory.{Store, fails_next}
use Rattle.edge_io.proofs.memory.MemSinkSink.write.Goals as goal

-- the call was named
pub returns-then-named-clause-others : goal.returns-then-named-clause-others
returns-then-named-clause-others c unnamed =
    let slice = ap (λ (fails : List ℕ). fails_next fails c.self.inside.calls) c.as_slice.ensures.value in
    let view = ap (λ (s : Store). fails_next s.fails s.calls) c.self.view_is in
    absurd (true≢false (sym c.if-named.true ∙ c.fails_next-named.ensures ∙ slice ∙ view ∙ unnamed))
