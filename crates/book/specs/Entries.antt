-- The entries that a book keeps, as entries of a history (our own).
use Rattle.std.specs.Prelude.{◌≡◌, List, [], ◌∷◌, ◌++◌, map, drop}
use Rattle.std.specs.Arc.{arc_value}
use Rattle.history.specs.declared.past.Past.{Past}
use Rattle.history.specs.declared.past.Past.TheVariants as pasts
use Rattle.history.specs.Entries.{History}
use Rattle.history.specs.Prefixes.{graph}
use Rattle.book.specs.declared.entry.Entry.{Entry}
use Rattle.book.specs.declared.entry.Entry.TheVariants.{Import, Grow, Publish}

abbrev pub past : Entry → Past
past (Import by advisory) = pasts.Import by (arc_value advisory)
past (Grow by key shared from) = pasts.Grow by key (drop from (arc_value shared))
past (Publish by upto) = pasts.Publish by upto

abbrev pub history_of : List Entry → History
history_of entries = map past entries

-- after these entries, what the next one shares of a repository is its whole graph with the entry
abbrev pub IsWhole : History → Entry → Type 0
IsWhole h (Import by advisory) = Unit {0}
IsWhole h (Grow by key shared from) = arc_value shared ≡ graph (h ++ past (Grow by key shared from) ∷ []) key
IsWhole h (Publish by upto) = Unit {0}

abbrev pub AreWhole : History → List Entry → Type 0
AreWhole h [] = Unit {0}
AreWhole h (e ∷ entries) = IsWhole h e × AreWhole (h ++ past e ∷ []) entries
