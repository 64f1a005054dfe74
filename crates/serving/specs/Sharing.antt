-- What the lanes and helpers of a service share (our own).
use Rattle.std.specs.Prelude.{◌≡◌, ◌≤◌}
use Rattle.pass_desk.specs.Passes.{settings_of}
use Rattle.serving.specs.declared.shared.Shared.{Shared}

-- the lock's book has the settings that are shared, by which some requests may be answered
pub record Suits {R G : Type 0} (shared : Shared R G) : Type 0 where
  pub settings : settings_of shared.lock.now.fixed ≡ shared.settings.now
  pub some : 1 ≤ shared.settings.now.requests
