-- The reading of a text as a semantic version (SemVer 2.0.0, items 2, 9 and 10), with a leading `v` and
-- with one or two numbers that are left out.
use Rattle.std.specs.Prelude.{◌≡◌, ◌≢◌, ℕ, Bool, List, [], ◌∷◌, ◌++◌, take, drop, codes, ◌==◌, ◌||◌, if◌then◌else◌, Option, Some, None, Result, Ok, Err}
use Rattle.std.specs.List.{count_by, position_or_len}
use Rattle.osv_prim.specs.Digits.{is_dot}
use Rattle.osv_prim.specs.declared.read_version.ReadVersion.{ReadVersion}
use Rattle.osv_prim.specs.declared.read_version.ReadVersion.TheVariants as why
use Rattle.semver.specs.Parse.{Parts, memory_error, version_parts}
use Rattle.semver.specs.declared.error.Error.{Error}
use Rattle.order_semver.specs.Key.{Key, pre_release}

-- the text without one leading `v`
abbrev pub without_v : List ℕ → List ℕ
without_v [] = []
without_v (c ∷ cs) = if c == 118 then cs else c ∷ cs

-- what ends the numbers
abbrev pub is_mark : ℕ → Bool
is_mark c = (c == 45) || (c == 43)

-- the numbers, and what stands from the first mark on
abbrev pub numbers : List ℕ → List ℕ
numbers text = take (position_or_len is_mark text) text

abbrev pub behind_numbers : List ℕ → List ℕ
behind_numbers text = drop (position_or_len is_mark text) text

abbrev pub dots : List ℕ → ℕ
dots text = count_by is_dot text

-- what fills up to three numbers, by the number of dots
abbrev pub missing : ℕ → List ℕ
missing n = if n == 0 then codes ".0.0" else if n == 1 then codes ".0" else []

abbrev pub completed : List ℕ → List ℕ
completed text = numbers text ++ (missing (dots (numbers text)) ++ behind_numbers text)

-- the text with three numbers
abbrev pub full_text : List ℕ → List ℕ
full_text text = completed (without_v text)

abbrev pub key_of : Result Parts Error → Option Key
key_of (Ok p) = Some (record { major = p.0; minor = p.1; patch = p.2; pre = pre_release p.3 })
key_of (Err e) = None

-- The key of the version that a text spells, if it spells one: the text with three numbers has to be a
-- version that the crate `semver` reads.
abbrev pub reading : List ℕ → Option Key
reading text = key_of (version_parts (full_text text))

-- whether an error of `semver` is a refusal or want of memory
abbrev pub IsFault : Error → ReadVersion → Type 0
IsFault e why.Memory = e ≡ memory_error
IsFault e why.NotAVersion = e ≢ memory_error
