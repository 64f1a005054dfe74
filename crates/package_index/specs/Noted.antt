-- What is noted of the packages of advisories, before it is put in order (our own).
use Rattle.std.specs.Prelude.{ℕ, ◌<◌, Bool, false, ◌&&◌, ◌==◌, nat_lt, List, length, slice_get, Option, Some, None, All}
use Rattle.std.specs.Option.{option_map_or}
use Rattle.std.specs.List.{list_any}
use Rattle.package_index.specs.declared.growing.Growing.{Growing}
use Rattle.package_index.specs.Numbers.{number_of}

abbrev pub is_entry : ℕ → ℕ → ℕ → (ℕ × ℕ) × ℕ → Bool
is_entry name ecosystem i e = (e.0.0 == name) && (e.0.1 == ecosystem) && (e.1 == i)

abbrev pub noted_at : List ((ℕ × ℕ) × ℕ) → Option ℕ → Option ℕ → ℕ → Bool
noted_at entries (Some name) (Some ecosystem) i = list_any (is_entry name ecosystem i) entries
noted_at entries (Some name) None i = false
noted_at entries None ecosystem i = false

-- the advisory with this index is noted under the ecosystem and the name
abbrev pub noted : Growing → List ℕ → List ℕ → ℕ → Bool
noted g ecosystem name i = noted_at g.entries.items (number_of g.names name) (number_of g.ecosystems ecosystem) i

-- each entry has two numbers that were given
abbrev pub AreGiven : ℕ → ℕ → List ((ℕ × ℕ) × ℕ) → Type 0
AreGiven names ecosystems entries = All (λ e. (e.0.0 < names) × (e.0.1 < ecosystems)) entries

abbrev pub IsSound : Growing → Type 0
IsSound g = AreGiven (length g.names) (length g.ecosystems) g.entries.items

-- ---- of an earlier list

-- the advisory at a place of the old list is at this one of the new list, which has so many
abbrev pub goes_to : List ℕ → ℕ → ℕ → ℕ → Bool
goes_to moved count i j = option_map_or (λ k. nat_lt k count && (k == j)) (slice_get moved i) false

abbrev pub is_moved_entry : List ℕ → ℕ → ℕ → ℕ → ℕ → (ℕ × ℕ) × ℕ → Bool
is_moved_entry moved count name ecosystem j e = (e.0.0 == name) && (e.0.1 == ecosystem) && goes_to moved count e.1 j

-- some advisory that goes to this place was noted
abbrev pub moved_at : List ((ℕ × ℕ) × ℕ) → List ℕ → ℕ → Option ℕ → Option ℕ → ℕ → Bool
moved_at entries moved count (Some name) (Some ecosystem) j = list_any (is_moved_entry moved count name ecosystem j) entries
moved_at entries moved count (Some name) None j = false
moved_at entries moved count None ecosystem j = false
