-- What a step between the bytes of chunks answers. No public clause cites this module.
use Rattle.std.specs.Prelude.{◌≡◌, ℕ, ◌<◌, ◌≤◌, ◌+◌, nat_lt, if◌then◌else◌, ◌==◌, ◌-◌, List, [], ◌∷◌, length, Option, Some, None}
use Rattle.http_wire.specs.declared.fault.WireFault.TheVariants as faults
use Rattle.http_wire.specs.declared.chunk.Step.{Step}
use Rattle.http_wire.specs.declared.chunk.Step.TheVariants as steps
use Rattle.http_wire.specs.declared.rest.Stage.{Stage}
use Rattle.http_wire.specs.declared.rest.Stage.TheVariants as stages
use Rattle.http_wire.specs.Chunks.{Body, Bad, Short, most_trailers}
use Rattle.http_wire.specs.Parts.{goes}

-- what is left of the body behind the step, at the front of this text
abbrev pub Moved : ℕ → Body → Step → List ℕ → Type 0
Moved limit b (steps.Stage s) rest = b ≡ goes limit s rest
Moved limit b (steps.Refused e) rest = b ≡ Bad e
Moved limit b steps.Truncated rest = b ≡ Short
Moved limit b steps.ReadFault rest = Unit {0}

-- The same where the source tells its bytes.
abbrev pub Moves : ℕ → Stage → Option (List ℕ) → Step → Option (List ℕ) → Type 0
Moves limit old None n after = Unit {0}
Moves limit old (Some text) n None = ⊥
Moves limit old (Some text) n (Some rest) = Moved limit (goes limit old text) n rest

-- what follows a chunk line that gives this size
unfoldable pub next_of : ℕ → ℕ → Option ℕ → Step
next_of limit sum None = steps.Refused faults.BadChunk
next_of limit sum (Some size) =
    if size == 0 then steps.Stage (stages.Trailers most_trailers)
    else if nat_lt limit (sum + size) then steps.Refused (faults.BodyTooLarge limit)
    else steps.Stage (stages.Chunk size (sum + size))

-- what follows a line of the trailers, which has room for so many bytes
unfoldable pub trailer_of : ℕ → List ℕ → Option (List ℕ) → Step
trailer_of room line None = steps.Refused faults.BadChunk
trailer_of room line (Some []) = steps.Stage (stages.Bytes 0)
trailer_of room line (Some (c ∷ cs)) = steps.Stage (stages.Trailers (room - (length line + 1)))

-- P of the stage, where one comes next
abbrev pub IfStage : Step → (Stage → Type 0) → Type 0
IfStage (steps.Stage s) P = P s
IfStage (steps.Refused e) P = Unit {0}
IfStage steps.Truncated P = Unit {0}
IfStage steps.ReadFault P = Unit {0}

-- a stage with bytes to take, or the end
abbrev pub IsReady : ℕ → Stage → Type 0
IsReady limit (stages.Bytes n) = Unit {0}
IsReady limit (stages.Line sum) = ⊥
IsReady limit (stages.Chunk n sum) = (0 < n) × (sum ≤ limit)
IsReady limit (stages.Trailers room) = ⊥

-- a stage behind a chunk line, where the sizes before it have this sum
abbrev pub IsBehindLine : ℕ → ℕ → Stage → Type 0
IsBehindLine limit before (stages.Bytes n) = ⊥
IsBehindLine limit before (stages.Line sum) = ⊥
IsBehindLine limit before (stages.Chunk n sum) = (0 < n) × (sum ≤ limit) × (sum ≡ before + n)
IsBehindLine limit before (stages.Trailers room) = room ≤ 65536

-- a stage behind a line of trailers
abbrev pub IsBehindTrailer : ℕ → Stage → Type 0
IsBehindTrailer room (stages.Bytes n) = n ≡ 0
IsBehindTrailer room (stages.Line sum) = ⊥
IsBehindTrailer room (stages.Chunk n sum) = ⊥
IsBehindTrailer room (stages.Trailers left) = left < room

-- the end of the trailers
abbrev pub IsBytes : Stage → Type 0
IsBytes (stages.Bytes n) = n ≡ 0
IsBytes (stages.Line sum) = ⊥
IsBytes (stages.Chunk n sum) = ⊥
IsBytes (stages.Trailers left) = ⊥

-- what the whole is, where the rest is so
abbrev pub Brings : Stage → Option (List ℕ) → Stage → Option (List ℕ) → Type 0
Brings s before t now = (limit : ℕ) (n : Step) (after : Option (List ℕ)) → Moves limit t now n after → Moves limit s before n after
