-- The key under which a repository is kept (our own).
use Rattle.std.specs.Prelude.{ℕ, ◌-◌, List, length, take, if◌then◌else◌, ◌==◌, codes}
use Rattle.std.specs.List.{ends_with}

-- the text without this end, where it has it
abbrev pub without_end : List ℕ → List ℕ → List ℕ
without_end end text = if ends_with (λ a b. a == b) text end then take (length text - length end) text else text

-- the URL without one final slash, and then without one final .git
abbrev pub normal_repo : List ℕ → List ℕ
normal_repo url = without_end (codes ".git") (without_end (codes "/") url)
