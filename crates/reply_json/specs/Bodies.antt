-- The bodies of replies to imports and publications (our own).
use Rattle.std.specs.Prelude.{ℕ, List, ◌++◌, codes, decimal}

-- the place of an import in the history
abbrev pub entry_body : ℕ → List ℕ
entry_body entry = codes "{\"entry\":" ++ (decimal entry ++ codes "}")

-- the place of the rows of a repository in the history, and how many commits it has with them
abbrev pub commits_body : ℕ → ℕ → List ℕ
commits_body entry commits = codes "{\"entry\":" ++ (decimal entry ++ (codes ",\"commits\":" ++ (decimal commits ++ codes "}")))

-- a snapshot, and how many imports it is of
abbrev pub published_body : ℕ → ℕ → List ℕ
published_body snapshot upto =
    codes "{\"state\":\"published\",\"snapshot\":" ++ (decimal snapshot ++ (codes ",\"upto\":" ++ (decimal upto ++ codes "}")))

-- how many jobs of a build are out, and how many turns were taken
abbrev pub building_body : ℕ → ℕ → List ℕ
building_body out took =
    codes "{\"state\":\"building\",\"out\":" ++ (decimal out ++ (codes ",\"took\":" ++ (decimal took ++ codes "}")))
