-- The compiled forms of the ranges of advisories, in parts (our own).
use Rattle.std.specs.Prelude.{◌≡◌, ℕ, ◌<◌, ◌⊎◌, List, [], Some, length, map, slice_get, slice_index_or}
use Rattle.std.specs.List.{AllZip}
use Rattle.osv_record.specs.Advisories.{Advisory}
use Rattle.range_hits.specs.Forms.{AreFormsOf}
use Rattle.range_hits.specs.declared.form.CompiledRange.{CompiledRange}

-- the forms of one advisory's ranges
abbrev pub Forms : Type 0
Forms = List CompiledRange

-- the index has the forms of these advisories, one after another
abbrev pub AreIndexed : List Advisory → List Forms → Type 0
AreIndexed advisories index = AllZip AreFormsOf advisories index

-- the forms of some advisories, which are kept or freed together
abbrev pub Part : Type 0
Part = List Forms

-- the forms at a place of a part, none where it isn't there
abbrev pub form_at : List Part → ℕ × ℕ → Forms
form_at parts at = slice_index_or (slice_index_or parts at.0 []) at.1 []

abbrev pub forms_of : List Part → List (ℕ × ℕ) → List Forms
forms_of parts places = map (form_at parts) places

-- an advisory of the old list that has a place in the new one is there
abbrev pub Stay : List ℕ → List Advisory → List Advisory → Type 0
Stay moved old new = (i j : ℕ) → slice_get moved i ≡ Some j → j < length new → slice_get old i ≡ slice_get new j

-- the forms of an advisory are at a place of these parts
abbrev pub IsIn : List Part → Advisory → ℕ × ℕ → Type 0
IsIn parts advisory at = (at.0 < length parts) × AreFormsOf advisory (form_at parts at)

-- they are, if the part is there; so of each advisory
abbrev pub IsKept : List Part → Advisory → ℕ × ℕ → Type 0
IsKept parts advisory at = at.0 < length parts → AreFormsOf advisory (form_at parts at)

abbrev pub AreKept : List Part → List Advisory → List (ℕ × ℕ) → Type 0
AreKept parts advisories places = AllZip (IsKept parts) advisories places

-- the forms of an advisory are at a place of the part behind these, which has been made so far
pub record IsMade (parts : List Part) (made : Part) (advisory : Advisory) (at : ℕ × ℕ) : Type 0 where
  pub part : at.0 ≡ length parts
  pub forms : Forms
  pub there : slice_get made at.1 ≡ Some forms
  pub are : AreFormsOf advisory forms

-- each advisory has its forms in these parts, or in the one that is made
abbrev pub IsPlaced : List Part → Part → Advisory → ℕ × ℕ → Type 0
IsPlaced parts made advisory at = IsIn parts advisory at ⊎ IsMade parts made advisory at

abbrev pub ArePlaced : List Part → Part → List Advisory → List (ℕ × ℕ) → Type 0
ArePlaced parts made advisories places = AllZip (IsPlaced parts made) advisories places
