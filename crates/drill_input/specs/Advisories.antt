-- The advisories of a drill (OSV schema 1.6).
use Rattle.std.specs.Prelude.{ℕ, zero, suc, ◌==◌, List, [], ◌∷◌, ◌++◌, Option, Some, None, Result, Ok, Err, if◌then◌else◌, codes, decimal}
use Rattle.rand_pcg.specs.Lcg.{Lcg}
use Rattle.osv_prim.specs.Oids.{text_of}
use Rattle.osv_record.specs.Advisories.{Advisory}
use Rattle.osv_record.specs.Reading as reading
use Rattle.osv_record.specs.declared.fault.RecordFault.{RecordFault}
use Rattle.drill_input.specs.Draws.{draw, drawn_id}
use Rattle.drill_input.specs.declared.advisory.Chosen.{Chosen}

-- one advisory in eight has a limit
abbrev pub limit : ℕ → Lcg → Option (List ℕ) × Lcg
limit size g = if (draw 8 g).0 == 0 then (Some (drawn_id size (draw 8 g).1).0, (drawn_id size (draw 8 g).1).1) else (None, (draw 8 g).1)

-- its package, the version that fixes it, the commits that introduce and fix it, and a limit
unfoldable pub picks : ℕ → Lcg → Chosen × Lcg
picks size g =
    let name = draw 10 g in
    let minor = draw 100 name.1 in
    let introduced = drawn_id size minor.1 in
    let fixed = drawn_id size introduced.1 in
    let last = limit size fixed.1 in
    (record { name = name.0; minor = minor.0; introduced = introduced.0; fixed = fixed.0; limit = last.0 }, last.1)

-- ---- texts

abbrev pub id_part : ℕ → List ℕ
id_part number = codes "{\"id\":\"DRILL-" ++ decimal number ++ codes "\",\"modified\":\"2024-01-01T00:00:00Z\",\"affected\":["

abbrev pub name_part : ℕ → List ℕ
name_part name = codes "{\"package\":{\"ecosystem\":\"npm\",\"name\":\"p" ++ decimal name ++ codes "\"},"

-- a range of versions
abbrev pub version_part : ℕ → List ℕ
version_part minor = codes "\"ranges\":[{\"type\":\"SEMVER\",\"events\":[{\"introduced\":\"0\"},{\"fixed\":\"1." ++ decimal minor ++ codes ".0\"}]},"

abbrev pub event_part : List ℕ → List ℕ → List ℕ
event_part before id = before ++ text_of id ++ codes "\"}"

abbrev pub limit_part : Option (List ℕ) → List ℕ
limit_part None = []
limit_part (Some id) = event_part (codes ",{\"limit\":\"") id

abbrev pub events_part : Chosen → List ℕ
events_part p = event_part (codes "{\"introduced\":\"") p.introduced ++ event_part (codes ",{\"fixed\":\"") p.fixed ++ limit_part p.limit

-- a GIT range, and what stands behind it
abbrev pub git_part : Chosen → List ℕ
git_part p = codes "{\"type\":\"GIT\",\"repo\":\"https://drill.example/r\",\"events\":[" ++ events_part p ++ codes "]}]}]}"

-- the text of the advisory with this number
unfoldable pub text : ℕ → Chosen → List ℕ
text number p = id_part number ++ name_part p.name ++ version_part p.minor ++ git_part p

-- ---- advisories

abbrev pub if_read : Result Advisory RecordFault → List Advisory
if_read (Ok advisory) = advisory ∷ []
if_read (Err fault) = []

-- the advisory that a text is
abbrev pub advisory_read : List ℕ → List Advisory
advisory_read bytes = if_read (reading.advisory bytes)

-- the first so many advisories of a drill of this size, and the generator after them
abbrev pub advisories : ℕ → ℕ → Lcg → List Advisory × Lcg
advisories size zero g = ([], g)
advisories size (suc n) g =
    let before = advisories size n g in
    (before.0 ++ advisory_read (text n (picks size before.1).0), (picks size before.1).1)
