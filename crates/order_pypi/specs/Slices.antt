-- The parts of a version in its text.
use Rattle.std.specs.Prelude.{map}
use Rattle.std.specs.Option.{option_map}
use Rattle.order_pypi.specs.Grammar.{spelled}
use Rattle.order_pypi.specs.Key.{Parts}
use Rattle.order_pypi.specs.declared.parts.Slices.{Slices}

-- with the local version in its normal spelling
abbrev pub seen : Slices → Parts
seen s = record {
  epoch = s.epoch.now;
  release = s.release.now;
  pre = option_map (λ w. (w.0, w.1.now)) s.pre;
  post = option_map (λ r. r.now) s.post;
  dev = option_map (λ r. r.now) s.dev;
  local = map spelled s.local.now;
}
