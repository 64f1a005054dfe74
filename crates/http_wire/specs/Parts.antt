-- What is left of a body to read, and what a reader of its parts answers.
use Rattle.std.specs.Prelude.{◌≡◌, ℕ, suc, ◌<◌, ◌≤◌, List, [], ◌++◌, length, Option, Some, None}
use Rattle.std.specs.Io.KnownBytes.{Keeps, Consumes, IsAtEnd}
use Rattle.http_wire.specs.declared.taking.Taken.{Taken}
use Rattle.http_wire.specs.declared.taking.Taken.TheVariants as taken
use Rattle.http_wire.specs.declared.rest.Stage.{Stage}
use Rattle.http_wire.specs.declared.rest.Stage.TheVariants as stages
use Rattle.http_wire.specs.declared.rest.Part.{Part}
use Rattle.http_wire.specs.declared.rest.Part.TheVariants as parts
use Rattle.http_wire.specs.Chunks.{Body, Whole, Bad, Short, behind, sized, chunk, chunks, trailers}

-- what was taken off the front of a text: at least one byte, and at most so many
abbrev pub Took : ℕ → Option (List ℕ) → Taken → List ℕ → Option (List ℕ) → Type 0
Took most before (taken.Bytes n) bytes after = (length bytes ≡ n) × (0 < n) × (n ≤ most) × (n ≤ 65536) × Consumes before after bytes
Took most before taken.Ended bytes after = (bytes ≡ []) × IsAtEnd before
Took most before taken.ReadFault bytes after = (bytes ≡ []) × Keeps before after

-- the same, behind other bytes
abbrev pub TookBehind : ℕ → Option (List ℕ) → List ℕ → Taken → List ℕ → Option (List ℕ) → Type 0
TookBehind most before part t part_now after = (bytes : List ℕ) × (part_now ≡ part ++ bytes) × Took most before t bytes after

-- chunks behind others whose sizes have this sum
abbrev pub chunks_from : ℕ → ℕ → List ℕ → Body
chunks_from limit sum text = chunks (suc (length text)) limit sum text

-- what is left of a body at the front of a text
abbrev pub goes : ℕ → Stage → List ℕ → Body
goes limit (stages.Bytes n) text = sized n text
goes limit (stages.Line sum) text = chunks_from limit sum text
goes limit (stages.Chunk n sum) text = chunk (chunks_from limit sum) n text
goes limit (stages.Trailers room) text = trailers (suc (length text)) room text

-- what a part tells of a body that is left
abbrev pub Gives : ℕ → Stage → List ℕ → Part → List ℕ → Stage → Option (List ℕ) → Type 0
Gives limit old text parts.More bytes new after = (rest : List ℕ) × (after ≡ Some rest) × (0 < length bytes) × (length bytes ≤ 65536) × (goes limit old text ≡ behind bytes (goes limit new rest))
Gives limit old text parts.Done bytes new after = (bytes ≡ []) × (rest : List ℕ) × (after ≡ Some rest) × (goes limit old text ≡ Whole [] rest)
Gives limit old text (parts.Refused e) bytes new after = (bytes ≡ []) × (goes limit old text ≡ Bad e)
Gives limit old text parts.Truncated bytes new after = (bytes ≡ []) × (goes limit old text ≡ Short)
Gives limit old text parts.ReadFault bytes new after = bytes ≡ []

-- the same where the source tells its bytes
abbrev pub GivesOf : ℕ → Stage → Option (List ℕ) → Part → List ℕ → Stage → Option (List ℕ) → Type 0
GivesOf limit old None p bytes new after = Unit {0}
GivesOf limit old (Some text) p bytes new after = Gives limit old text p bytes new after

-- the same of a part that is put behind other bytes
abbrev pub GivesBehind : ℕ → Stage → Option (List ℕ) → List ℕ → Part → List ℕ → Stage → Option (List ℕ) → Type 0
GivesBehind limit old before bytes p bytes_now new after = (part : List ℕ) × (bytes_now ≡ bytes ++ part) × GivesOf limit old before p part new after
