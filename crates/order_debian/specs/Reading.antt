-- The reading of a text as a Debian version, [epoch:]upstream[-revision] (Debian Policy, 5.6.12).
use Rattle.std.specs.Prelude.{ℕ, suc, ◌+◌, ◌<◌, Bool, true, ◌==◌, ◌&&◌, ◌||◌, if◌then◌else◌, List, [], ◌∷◌, Option, Some, None, length, take, drop, IfSome, nat_lt, ◌≡◌}
use Rattle.std.specs.Char.{is_ascii_alphanumeric, is_ascii_digit}
use Rattle.std.specs.List.{list_all, position}
use Rattle.std.specs.Option.{is_some}
use Rattle.osv_prim.specs.Digits.{number}
use Rattle.order_debian.specs.Key.{Key}
use Rattle.order_debian.specs.Turns.{weights}

abbrev pub last_or : Bool → Option ℕ → Option ℕ
last_or here None = if here then Some 0 else None
last_or here (Some i) = Some (suc i)

-- the last place at which a byte stands, places counted from 0
unfoldable pub last_place : ℕ → List ℕ → Option ℕ
last_place b [] = None
last_place b (c ∷ cs) = last_or (c == b) (last_place b cs)

-- an absent epoch is 0
abbrev pub epoch_of : Option ℕ → List ℕ → List ℕ
epoch_of None text = 48 ∷ []
epoch_of (Some colon) text = take colon text

abbrev pub after_epoch : Option ℕ → List ℕ → List ℕ
after_epoch None text = text
after_epoch (Some colon) text = drop (colon + 1) text

abbrev pub upstream_of : Option ℕ → List ℕ → List ℕ
upstream_of None rest = rest
upstream_of (Some dash) rest = take dash rest

-- an absent revision is 0
abbrev pub revision_of : Option ℕ → List ℕ → List ℕ
revision_of None rest = 48 ∷ []
revision_of (Some dash) rest = drop (dash + 1) rest

abbrev pub is_revision_character : ℕ → Bool
is_revision_character c = is_ascii_alphanumeric c || (c == 43) || (c == 46) || (c == 126)

-- a colon only where there is an epoch
abbrev pub is_upstream_character : Bool → ℕ → Bool
is_upstream_character epoch c = is_revision_character c || (c == 45) || (epoch && (c == 58))

-- at least one byte, and nothing but such bytes
abbrev pub is_part : (ℕ → Bool) → List ℕ → Bool
is_part p text = nat_lt 0 (length text) && list_all p text

-- no part that is there is empty, and each has its characters alone
abbrev pub is_cut : Option ℕ → Option ℕ → List ℕ → Bool
is_cut colon dash text =
    is_part is_ascii_digit (epoch_of colon text)
    && is_part (is_upstream_character (is_some colon)) (upstream_of dash (after_epoch colon text))
    && is_part is_revision_character (revision_of dash (after_epoch colon text))

abbrev pub key_at : Option ℕ → Option ℕ → List ℕ → Key
key_at colon dash text = record {
  epoch = number (epoch_of colon text);
  upstream = weights (upstream_of dash (after_epoch colon text));
  revision = weights (revision_of dash (after_epoch colon text));
}

-- the places are within the text, and the epoch is digits
pub record IsPlaced (colon dash : Option ℕ) (text : List ℕ) : Type 0 where
  pub colon_within : IfSome colon (λ i. i < length text)
  pub dash_within : IfSome dash (λ i. i < length (after_epoch colon text))
  pub numeric : list_all is_ascii_digit (epoch_of colon text) ≡ true

abbrev pub reading_at : Option ℕ → Option ℕ → List ℕ → Option Key
reading_at colon dash text = if is_cut colon dash text then Some (key_at colon dash text) else None

-- the first colon of a text
abbrev pub colon_of : List ℕ → Option ℕ
colon_of text = position (λ c. c == 58) text

-- the last dash behind the epoch, counted from there
abbrev pub dash_of : List ℕ → Option ℕ
dash_of text = last_place 45 (after_epoch (colon_of text) text)

-- the key of the version that a text spells, if it spells one
abbrev pub reading : List ℕ → Option Key
reading text = reading_at (colon_of text) (dash_of text) text
