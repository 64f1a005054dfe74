-- The reading of a text as a version, its parts from left to right (PEP 440, Appendix B).
use Rattle.std.specs.Prelude.{◌≡◌, ℕ, Bool, true, false, ◌&&◌, ◌||◌, if◌then◌else◌, List, [], ◌∷◌, map, Option, Some, None, IfSome}
use Rattle.std.specs.Char.{is_ascii_digit}
use Rattle.std.specs.List.{list_all}
use Rattle.osv_prim.specs.Digits.{all_digits, is_dot}
use Rattle.order_pypi.specs.Grammar.{behind_dev, behind_epoch, behind_local, behind_post, behind_pre, behind_release, behind_v, dev_of, epoch_of, local_of, post_of, pre_of, release_of, spelled, starts, trim_end, trim_start}
use Rattle.order_pypi.specs.Key.{Key, Parts, key_of}

abbrev pub is_empty : List ℕ → Bool
is_empty [] = true
is_empty (c ∷ cs) = false

-- where each part begins
abbrev pub at_epoch : List ℕ → List ℕ
at_epoch text = behind_v (trim_end (trim_start text))

abbrev pub at_release : List ℕ → List ℕ
at_release text = behind_epoch (at_epoch text)

abbrev pub at_pre : List ℕ → List ℕ
at_pre text = behind_release (at_release text)

abbrev pub at_post : List ℕ → List ℕ
at_post text = behind_pre (at_pre text)

abbrev pub at_dev : List ℕ → List ℕ
at_dev text = behind_post (at_post text)

abbrev pub at_local : List ℕ → List ℕ
at_local text = behind_dev (at_dev text)

abbrev pub at_end : List ℕ → List ℕ
at_end text = behind_local (at_local text)

-- there is a release, and nothing is left over
abbrev pub is_version : List ℕ → Bool
is_version text = starts is_ascii_digit (at_release text) && is_empty (at_end text)

abbrev pub parts : List ℕ → Parts
parts text = record {
  epoch = epoch_of (at_epoch text);
  release = release_of (at_release text);
  pre = pre_of (at_pre text);
  post = post_of (at_post text);
  dev = dev_of (at_dev text);
  local = map spelled (local_of (at_local text));
}

-- the key of the version that a text spells, if it spells one
abbrev pub reading : List ℕ → Option Key
reading text = if is_version text then Some (key_of (parts text)) else None

abbrev pub is_release_byte : ℕ → Bool
is_release_byte c = is_ascii_digit c || is_dot c

-- the parts are of digits, and the release of digits and dots
pub record IsSpelled (p : Parts) : Type 0 where
  pub epoch : all_digits p.epoch ≡ true
  pub release : list_all is_release_byte p.release ≡ true
  pub pre : IfSome p.pre (λ w. all_digits w.1 ≡ true)
  pub post : IfSome p.post (λ ds. all_digits ds ≡ true)
  pub dev : IfSome p.dev (λ ds. all_digits ds ≡ true)
