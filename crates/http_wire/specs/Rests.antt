-- What is left of a body to read, and what a part of it tells.
use Rattle.std.specs.Prelude.{ℕ, ◌≡◌, ◌<◌, ◌≤◌, List, [], ◌++◌, length, Option, Some, None}
use Rattle.http_wire.specs.declared.rest.Rest.{Rest}
use Rattle.http_wire.specs.declared.rest.Part.{Part}
use Rattle.http_wire.specs.declared.rest.Part.TheVariants as parts
use Rattle.http_wire.specs.Chunks.{Body, Whole, Bad, Short, behind}
use Rattle.http_wire.specs.Fits.{work}
use Rattle.http_wire.specs.Parts.{goes}

-- the body that is left, at the front of a text
abbrev pub left_of : Rest → List ℕ → Body
left_of r text = goes r.limit r.stage text

-- how many bytes it may have yet
abbrev pub work_of : Rest → ℕ
work_of r = work r.limit r.stage

-- what a part tells of a body that is left
abbrev pub TellsPart : Rest → List ℕ → Part → List ℕ → Rest → Option (List ℕ) → Type 0
TellsPart old text parts.More bytes new left =
    (rest : List ℕ) × (left ≡ Some rest) × (0 < length bytes) × (length bytes ≤ 65536) × (left_of old text ≡ behind bytes (left_of new rest))
TellsPart old text parts.Done bytes new left = (bytes ≡ []) × (rest : List ℕ) × (left ≡ Some rest) × (left_of old text ≡ Whole [] rest)
TellsPart old text (parts.Refused e) bytes new left = (bytes ≡ []) × (left_of old text ≡ Bad e)
TellsPart old text parts.Truncated bytes new left = (bytes ≡ []) × (left_of old text ≡ Short)
TellsPart old text parts.ReadFault bytes new left = bytes ≡ []

-- the same where the source tells its bytes
abbrev pub PartOf : Rest → Option (List ℕ) → Part → List ℕ → Rest → Option (List ℕ) → Type 0
PartOf old None p bytes new left = Unit {0}
PartOf old (Some text) p bytes new left = TellsPart old text p bytes new left

-- a body that was read so far, and what is left of it
abbrev pub ReadSoFar : Rest → Option (List ℕ) → List ℕ → Rest → Option (List ℕ) → Type 0
ReadSoFar old None body new left = Unit {0}
ReadSoFar old (Some text) body new None = ⊥
ReadSoFar old (Some text) body new (Some rest) = left_of old text ≡ behind body (left_of new rest)

-- the same of a part that is put behind other bytes
abbrev pub PartBehind : Rest → Option (List ℕ) → List ℕ → Part → List ℕ → Rest → Option (List ℕ) → Type 0
PartBehind old before bytes p bytes_now new left = (part : List ℕ) × (bytes_now ≡ bytes ++ part) × PartOf old before p part new left
