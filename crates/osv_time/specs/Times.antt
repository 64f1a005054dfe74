-- The times of advisories (RFC 3339, 5.6, "date-time"; OSV schema 1.6, "modified"). That letters are capitals, that the
-- zone is Z, that a fraction has at most nine digits and that no second is a leap second is our own.
use Rattle.std.specs.Prelude.{ℕ, ◌+◌, ◌-◌, ◌*◌, ◌^◌, Bool, ◌&&◌, ◌==◌, nat_le, List, [], ◌∷◌, length, take, drop, Option, Some, None, option_and_then, if◌then◌else◌, ℤ, pos, ◌+ℤ◌, ◌*ℤ◌, codes}
use Rattle.std.specs.Char.{is_ascii_digit}
use Rattle.std.specs.List.{list_all, zip}
use Rattle.std.specs.Str.{bytes_eq}
use Rattle.jiff_core.specs.Calendar.{days_in_month, days_from_civil}
use Rattle.osv_prim.specs.Digits.{number, digit_front, behind_digits}

-- a digit where the form has D, and else the form's own character
abbrev pub fits : List ℕ → List ℕ → Bool
fits form text = list_all (λ p. if p.0 == 68 then is_ascii_digit p.1 else p.1 == p.0) (zip form text)

-- the text begins as a date and a time of day do
abbrev pub has_form : List ℕ → Bool
has_form text = nat_le 19 (length text) && fits (codes "DDDD-DD-DDTDD:DD:DD") (take 19 text)

-- the digits of the fraction in what stands behind the seconds: a Z, or a point, one to nine digits and a Z
abbrev pub fraction : List ℕ → Option (List ℕ)
fraction [] = None
fraction (c ∷ cs) =
    if c == 46 then (if bytes_eq (behind_digits cs) (codes "Z") && nat_le 1 (length (digit_front cs)) && nat_le (length (digit_front cs)) 9 then Some (digit_front cs) else None)
    else (if bytes_eq (c ∷ cs) (codes "Z") then Some [] else None)

-- the nanoseconds of a fraction of a second: its digits as a number, with zeros behind them to nine digits
abbrev pub fraction_nanos : List ℕ → ℕ
fraction_nanos digits = number digits * 10 ^ (9 - length digits)

-- the day number from 1970-01-01 of a date that the Gregorian calendar has
abbrev pub day_of : ℕ → ℕ → ℕ → Option ℤ
day_of year month day =
    if nat_le year 9999 && nat_le 1 month && nat_le month 12 && nat_le 1 day && nat_le day (days_in_month (pos year) month)
    then Some (days_from_civil (pos year) month day) else None

abbrev pub second_of_day : ℕ → ℕ → ℕ → Option ℕ
second_of_day hour minute second =
    if nat_le hour 23 && nat_le minute 59 && nat_le second 59 then Some ((hour * 60 + minute) * 60 + second) else None

abbrev pub nanos_since_1970 : ℤ → ℕ → ℕ → ℤ
nanos_since_1970 day second nanos = (day *ℤ pos 86400 +ℤ pos second) *ℤ pos 1000000000 +ℤ pos nanos

-- the day number of the date that leads a text of the form
unfoldable pub date_of : List ℕ → Option ℤ
date_of text = day_of (number (take 4 (drop 0 text))) (number (take 2 (drop 5 text))) (number (take 2 (drop 8 text)))

-- the second of the day behind its T
unfoldable pub clock_of : List ℕ → Option ℕ
clock_of text = second_of_day (number (take 2 (drop 11 text))) (number (take 2 (drop 14 text))) (number (take 2 (drop 17 text)))

-- the nanoseconds since 1970 of a text of the form
unfoldable pub time_of : List ℕ → Option ℤ
time_of text =
    if has_form text
    then option_and_then (λ digits. option_and_then (λ day. option_and_then (λ second. Some (nanos_since_1970 day second (fraction_nanos digits))) (clock_of text)) (date_of text)) (fraction (drop 19 text))
    else None
