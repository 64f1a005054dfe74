-- What was fed, and what is answered.
use Rattle.std.proofs.Common.{◌≡◌, ◌≢◌, ℕ, List, [], ◌++◌, sym, ap, subst, ◌∙◌}
use Rattle.std.proofs.lemmas.List.{append-nil}
use Rattle.fast_export.specs.declared.fault.StreamFault.{StreamFault}
use Rattle.fast_export.specs.declared.fault.StreamFault.TheVariants as faults
use Rattle.fast_export.specs.declared.reading.Reading.{Reading}
use Rattle.fast_export.specs.Stream.{Bad, outcome, stream, IsNoFault}
use Rattle.fast_export.specs.Reading.{resume, Leads, Faulty}
use Rattle.fast_export.specs.Reads.{Follows}
use Rattle.fast_export.proofs.Ends.{resume-no_fault}

pub fed_whole : (most : ℕ) (fed : List ℕ) (r : Reading) → Follows most fed r → stream fed most ≡ outcome (resume r [])
fed_whole most fed r f = ap (λ (t : List ℕ). stream t most) (sym (append-nil fed)) ∙ f.same []

pub fed_ok : (most : ℕ) (fed piece : List ℕ) (old new : Reading) → Follows most fed old → Leads old piece new [] → IsNoFault (stream (fed ++ piece) most)
fed_ok most fed piece old new f l =
    subst IsNoFault (sym (f.same piece ∙ ap (λ (t : List ℕ). outcome (resume old t)) (sym (append-nil piece)) ∙ ap outcome (l.same []))) (resume-no_fault new)

pub fed_err : (most : ℕ) (fed piece : List ℕ) (old : Reading) (e : StreamFault) → Follows most fed old → Faulty old piece e → e ≢ faults.Memory → stream (fed ++ piece) most ≡ Bad e
fed_err most fed piece old e f bad ne =
    f.same piece ∙ ap (λ (t : List ℕ). outcome (resume old t)) (sym (append-nil piece)) ∙ ap outcome (bad ne [])
