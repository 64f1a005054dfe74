-- A text is the front that belongs to a part, and what stands behind it.
use Rattle.std.proofs.Common.{◌≡◌, ℕ, ◌-◌, ◌≤◌, Bool, true, false, ◌&&◌, List, [], ◌∷◌, ◌++◌, length, take, refl, sym, ap, ◌∙◌, arith, inl, inr, length-append}
use Rattle.std.proofs.lemmas.Bool.{cases_Bool}
use Rattle.std.specs.Prelude.{◌||◌}
use Rattle.std.proofs.Math.Seq.{take-append_seam}
use Rattle.std.specs.Char.{is_ascii_alphanumeric, is_ascii_digit}
use Rattle.std.specs.List.{list_all}
use Rattle.osv_prim.specs.Digits.{is_dot}
use Rattle.osv_prim.specs.Packages.{is_separator}
use Rattle.order_pypi.specs.Grammar.{behind_release, behind_segments, release_of, segments, starts}
use Rattle.order_pypi.specs.Reading.{is_release_byte}

cut_by : (front behind text : List ℕ) → front ++ behind ≡ text → take (length text - length behind) text ≡ front
cut_by front behind text e =
    let long : length (front ++ behind) - length behind ≡ length front = omega (arith, length-append front behind) in
    rw (sym e) (ap (λ (n : ℕ). take n (front ++ behind)) long ∙ take-append_seam front behind)

shorter_by : (front behind text : List ℕ) → front ++ behind ≡ text → length behind ≤ length text
shorter_by front behind text e = rw (sym e) (omega (arith, length-append front behind))

release_joined : (t : List ℕ) → release_of t ++ behind_release t ≡ t
unfolding release_of behind_release
release_joined [] = refl
release_joined (c ∷ cs) = elim (cases_Bool (is_ascii_digit c || (is_dot c && starts is_ascii_digit cs))) [
  | inl goes_on ↦ rw goes_on (ap (λ (x : List ℕ). c ∷ x) (release_joined cs))
  | inr ends ↦ rw ends refl
]

segments_joined : (t : List ℕ) → segments t ++ behind_segments t ≡ t
unfolding segments behind_segments
segments_joined [] = refl
segments_joined (c ∷ cs) = elim (cases_Bool (is_ascii_alphanumeric c || (is_separator c && starts is_ascii_alphanumeric cs))) [
  | inl goes_on ↦ rw goes_on (ap (λ (x : List ℕ). c ∷ x) (segments_joined cs))
  | inr ends ↦ rw ends refl
]

pub release_cut : (t : List ℕ) → take (length t - length (behind_release t)) t ≡ release_of t
release_cut t = cut_by (release_of t) (behind_release t) t (release_joined t)

pub release_shorter : (t : List ℕ) → length (behind_release t) ≤ length t
release_shorter t = shorter_by (release_of t) (behind_release t) t (release_joined t)

pub segments_cut : (t : List ℕ) → take (length t - length (behind_segments t)) t ≡ segments t
segments_cut t = cut_by (segments t) (behind_segments t) t (segments_joined t)

pub segments_shorter : (t : List ℕ) → length (behind_segments t) ≤ length t
segments_shorter t = shorter_by (segments t) (behind_segments t) t (segments_joined t)

either_of : (a b d : Bool) → (a || (b && d)) ≡ true → (a || b) ≡ true
either_of true b d e = refl
either_of false true d e = refl
either_of false false d e = e

pub release_bytes : (t : List ℕ) → list_all is_release_byte (release_of t) ≡ true
unfolding release_of
release_bytes [] = refl
release_bytes (c ∷ cs) = elim (cases_Bool (is_ascii_digit c || (is_dot c && starts is_ascii_digit cs))) [
  | inl goes_on ↦ rw (goes_on, either_of (is_ascii_digit c) (is_dot c) (starts is_ascii_digit cs) goes_on) (release_bytes cs)
  | inr ends ↦ rw ends refl
]
