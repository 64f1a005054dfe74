-- The parts of a version's text, each as long as it can be, and what stands behind each (PEP 440,
-- Appendix B). Letters count alike in both cases.
use Rattle.std.specs.Prelude.{ℕ, Bool, false, nat_le, ◌==◌, ◌&&◌, ◌||◌, if◌then◌else◌, List, [], ◌∷◌, reverse, codes, Option, Some, None}
use Rattle.std.specs.Char.{is_ascii_alphanumeric, is_ascii_digit}
use Rattle.std.specs.Option.{option_map, option_map_or}
use Rattle.osv_prim.specs.Digits.{behind_digits, digit_front, is_dot}
use Rattle.osv_prim.specs.Packages.{is_separator, lower}
use Rattle.order_pypi.specs.declared.word.PreWord.{PreWord}
use Rattle.order_pypi.specs.declared.word.PreWord.TheVariants.{Alpha, Beta, Candidate}

-- whether the first byte of a text passes
abbrev pub starts : (ℕ → Bool) → List ℕ → Bool
starts p [] = false
starts p (c ∷ cs) = p c

abbrev pub tail : List ℕ → List ℕ
tail [] = []
tail (c ∷ cs) = cs

-- White space outside is dropped: space, tab, LF, VT, FF and CR.
abbrev pub is_space : ℕ → Bool
is_space c = (c == 32) || (nat_le 9 c && nat_le c 13)

unfoldable pub trim_start : List ℕ → List ℕ
trim_start [] = []
trim_start (c ∷ cs) = if is_space c then trim_start cs else c ∷ cs

unfoldable pub trim_end : List ℕ → List ℕ
trim_end text = reverse (trim_start (reverse text))

-- a leading v
abbrev pub is_v : ℕ → Bool
is_v c = lower c == 118

unfoldable pub behind_v : List ℕ → List ℕ
behind_v text = if starts is_v text then tail text else text

-- the epoch: digits and `!`
abbrev pub is_bang : ℕ → Bool
is_bang c = c == 33

abbrev pub has_epoch : List ℕ → Bool
has_epoch text = starts is_ascii_digit text && starts is_bang (behind_digits text)

unfoldable pub epoch_of : List ℕ → List ℕ
epoch_of text = if has_epoch text then digit_front text else []

unfoldable pub behind_epoch : List ℕ → List ℕ
behind_epoch text = if has_epoch text then tail (behind_digits text) else text

-- the release, which begins with a digit: digits, and dots before which and behind which a digit stands
unfoldable pub release_of : List ℕ → List ℕ
release_of [] = []
release_of (c ∷ cs) = if is_ascii_digit c || (is_dot c && starts is_ascii_digit cs) then c ∷ release_of cs else []

unfoldable pub behind_release : List ℕ → List ℕ
behind_release [] = []
behind_release (c ∷ cs) = if is_ascii_digit c || (is_dot c && starts is_ascii_digit cs) then behind_release cs else c ∷ cs

-- before a word and behind it one separator may stand
unfoldable pub behind_separator : List ℕ → List ℕ
behind_separator text = if starts is_separator text then tail text else text

-- what stands behind a word, where the text begins with it
unfoldable pub behind_word : List ℕ → List ℕ → Option (List ℕ)
behind_word [] text = Some text
behind_word (w ∷ ws) [] = None
behind_word (w ∷ ws) (c ∷ cs) = if lower c == w then behind_word ws cs else None

abbrev pub first_of_two : {A : Type 0} → Option A → Option A → Option A
first_of_two (Some x) y = Some x
first_of_two None y = y

-- the digits behind a word, of which there may be none
abbrev pub number_behind : List ℕ → List ℕ
number_behind text = digit_front (behind_separator text)

abbrev pub behind_number : List ℕ → List ℕ
behind_number text = behind_digits (behind_separator text)

-- a pre-release: `alpha` or `a`, `beta` or `b`, and `rc`, `c`, `preview` or `pre` for a candidate
unfoldable pub behind_alpha : List ℕ → Option (List ℕ)
behind_alpha text = first_of_two (behind_word (codes "alpha") text) (behind_word (codes "a") text)

unfoldable pub behind_beta : List ℕ → Option (List ℕ)
behind_beta text = first_of_two (behind_word (codes "beta") text) (behind_word (codes "b") text)

unfoldable pub behind_candidate : List ℕ → Option (List ℕ)
behind_candidate text =
    first_of_two (first_of_two (behind_word (codes "rc") text) (behind_word (codes "c") text))
    (first_of_two (behind_word (codes "preview") text) (behind_word (codes "pre") text))

abbrev pub meant : PreWord → Option (List ℕ) → Option (PreWord × List ℕ)
meant w found = option_map (λ (rest : List ℕ). (w, rest)) found

unfoldable pub pre_word : List ℕ → Option (PreWord × List ℕ)
pre_word text = first_of_two (meant Alpha (behind_alpha text)) (first_of_two (meant Beta (behind_beta text)) (meant Candidate (behind_candidate text)))

unfoldable pub pre_of : List ℕ → Option (PreWord × List ℕ)
pre_of text = option_map (λ (w : PreWord × List ℕ). (w.0, number_behind w.1)) (pre_word (behind_separator text))

unfoldable pub behind_pre : List ℕ → List ℕ
behind_pre text = option_map_or (λ (w : PreWord × List ℕ). behind_number w.1) (pre_word (behind_separator text)) text

-- a post-release: a dash and digits, or `post`, `rev` or `r`
abbrev pub is_dash : ℕ → Bool
is_dash c = c == 45

abbrev pub is_dashed : List ℕ → Bool
is_dashed text = starts is_dash text && starts is_ascii_digit (tail text)

unfoldable pub post_word : List ℕ → Option (List ℕ)
post_word text = first_of_two (behind_word (codes "post") text) (first_of_two (behind_word (codes "rev") text) (behind_word (codes "r") text))

unfoldable pub post_of : List ℕ → Option (List ℕ)
post_of text = if is_dashed text then Some (digit_front (tail text)) else option_map number_behind (post_word (behind_separator text))

unfoldable pub behind_post : List ℕ → List ℕ
behind_post text = if is_dashed text then behind_digits (tail text) else option_map_or behind_number (post_word (behind_separator text)) text

-- a development release: `dev`
unfoldable pub dev_word : List ℕ → Option (List ℕ)
dev_word text = behind_word (codes "dev") text

unfoldable pub dev_of : List ℕ → Option (List ℕ)
dev_of text = option_map number_behind (dev_word (behind_separator text))

unfoldable pub behind_dev : List ℕ → List ℕ
behind_dev text = option_map_or behind_number (dev_word (behind_separator text)) text

-- the segments of a local version: letters and digits, and separators before which and behind which one of
-- these stands
unfoldable pub segments : List ℕ → List ℕ
segments [] = []
segments (c ∷ cs) = if is_ascii_alphanumeric c || (is_separator c && starts is_ascii_alphanumeric cs) then c ∷ segments cs else []

unfoldable pub behind_segments : List ℕ → List ℕ
behind_segments [] = []
behind_segments (c ∷ cs) = if is_ascii_alphanumeric c || (is_separator c && starts is_ascii_alphanumeric cs) then behind_segments cs else c ∷ cs

-- the normal spelling: lower case, with dots for separators
abbrev pub spelled : ℕ → ℕ
spelled c = if is_separator c then 46 else lower c

-- a local version: `+`, and segments
abbrev pub is_plus : ℕ → Bool
is_plus c = c == 43

abbrev pub has_local : List ℕ → Bool
has_local text = starts is_plus text && starts is_ascii_alphanumeric (tail text)

unfoldable pub local_of : List ℕ → List ℕ
local_of text = if has_local text then segments (tail text) else []

unfoldable pub behind_local : List ℕ → List ℕ
behind_local text = if has_local text then behind_segments (tail text) else text
