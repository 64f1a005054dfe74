-- What a service may be set to, and what it is set to where nothing is said (our own).
use Rattle.std.specs.Prelude.{ℕ, ◌≤◌}
use Rattle.settings.specs.declared.Settings.{Settings}
use Rattle.settings.specs.declared.TheConstants.{MAX_KEEP, MAX_PAGE, MIN_WEIGHT, MAX_WEIGHT, MAX_COMMITS, MAX_BODY_BYTES, MAX_STREAM_BYTES, MAX_REQUESTS}

-- the number is not below the least, and not above the most
abbrev pub IsBetween : ℕ → ℕ → ℕ → Type 0
IsBetween least most n = (least ≤ n) × (n ≤ most)

-- each number of the settings is in its range
pub record AreInRange (s : Settings) : Type 0 where
  pub keep : IsBetween 1 MAX_KEEP s.keep
  pub page : IsBetween 1 MAX_PAGE s.page
  pub weight : IsBetween MIN_WEIGHT MAX_WEIGHT s.weight
  pub commits : IsBetween 1 MAX_COMMITS s.commits
  pub body : IsBetween 1 MAX_BODY_BYTES s.body
  pub stream : IsBetween 1 MAX_STREAM_BYTES s.stream
  pub requests : IsBetween 1 MAX_REQUESTS s.requests

-- the settings where nothing is said
abbrev pub default_settings : Settings
default_settings = record {
  weight = 1073741824;
  body = MAX_BODY_BYTES;
  stream = MAX_STREAM_BYTES;
  requests = MAX_REQUESTS;
  keep = 8;
  page = 100;
  commits = MAX_COMMITS;
}
