-- The history of a service: its imports and publications, in the order in which they came (our own).
use Rattle.std.specs.Prelude.{◌≡◌, ℕ, ◌+◌, ◌-◌, ◌*◌, ◌<◌, ◌≤◌, List, [], ◌∷◌, length, take, drop, filter, slice_index_or, if◌then◌else◌, nat_eq, true}
use Rattle.history.specs.declared.past.Past.{Past}
use Rattle.history.specs.declared.past.Past.TheVariants.{Import, Grow, Publish}
use Rattle.osv_record.specs.Advisories.{git_ranges}
use Rattle.commit_graph.specs.Linked.{weight_of}

abbrev pub History : Type 0
History = List Past

abbrev pub caller : Past → ℕ
caller (Import by advisory) = by
caller (Grow by key rows) = by
caller (Publish by upto) = by

-- the imports, of advisories and of rows, in order
abbrev pub imports : History → List Past
imports [] = []
imports (Import by advisory ∷ h) = Import by advisory ∷ imports h
imports (Grow by key rows ∷ h) = Grow by key rows ∷ imports h
imports (Publish by upto ∷ h) = imports h

-- how many imports each publication is of
abbrev pub uptos : History → List ℕ
uptos [] = []
uptos (Import by advisory ∷ h) = uptos h
uptos (Grow by key rows ∷ h) = uptos h
uptos (Publish by upto ∷ h) = upto ∷ uptos h

-- ---- snapshots

-- the number of the newest snapshot
abbrev pub newest : History → ℕ
newest h = length (uptos h)

-- how many imports snapshot s is of, the one numbered 0 being empty
abbrev pub upto_of : History → ℕ → ℕ
upto_of h s = slice_index_or (0 ∷ uptos h) s 0

-- the imports of snapshot s
abbrev pub snap : History → ℕ → List Past
snap h s = take (upto_of h s) (imports h)

-- the imports among the first so many that came after those of snapshot s
abbrev pub added : History → ℕ → ℕ → List Past
added h s upto = drop (upto_of h s) (take upto (imports h))

-- it was not published yet
abbrev pub IsAhead : History → ℕ → Type 0
IsAhead h s = newest h < s

-- it is among the newest so many
abbrev pub IsKept : ℕ → History → ℕ → Type 0
IsKept keep h s = (s ≤ newest h) × (newest h < s + keep)

-- it was published, and is no longer kept
abbrev pub IsGone : ℕ → History → ℕ → Type 0
IsGone keep h s = (s ≤ newest h) × (s + keep ≤ newest h)

abbrev pub oldest_kept : ℕ → History → ℕ
oldest_kept keep h = newest h + 1 - keep

-- ---- weight

abbrev pub entry_weight : Past → ℕ
entry_weight (Import by advisory) = 64 + length advisory.text + 64 * git_ranges advisory.affected
entry_weight (Grow by key rows) = 64 + length key + weight_of rows
entry_weight (Publish by upto) = 0

abbrev pub weight : History → ℕ
weight [] = 0
weight (e ∷ h) = entry_weight e + weight h

-- ---- a caller's entries

-- the entries by a caller, with their places, the first being at this place
abbrev pub own_from : ℕ → ℕ → History → List (ℕ × Past)
own_from place me [] = []
own_from place me (e ∷ h) = if nat_eq (caller e) me then (place, e) ∷ own_from (place + 1) me h else own_from (place + 1) me h

abbrev pub own : ℕ → History → List (ℕ × Past)
own me h = own_from 0 me h

-- an entry by the caller stands there
abbrev pub IsOwn : ℕ → History → ℕ × Past → Type 0
IsOwn me h x = (x.0 < length h) × (slice_index_or h x.0 x.1 ≡ x.1) × (nat_eq (caller x.1) me ≡ true)

-- the entries by a caller, without their places
abbrev pub by_caller : ℕ → History → List Past
by_caller me h = filter (λ e. nat_eq (caller e) me) h
