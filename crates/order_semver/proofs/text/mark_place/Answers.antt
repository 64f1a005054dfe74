use Rattle.std.proofs.Common.{◌∙◌, ap, length, ℕ, Option, unwrap_or}
use Rattle.order_semver.specs.Reading.{is_mark}
use Rattle.order_semver.proofs.Places.{place_or_len}
use Rattle.order_semver.proofs.text.mark_place.Goals as goal

pub returns : goal.returns
returns c = c.unwrap_or.ensures ∙ ap (λ (o : Option ℕ). unwrap_or o (length c.args.text.now)) c.first_mark.ensures.place ∙ place_or_len is_mark c.args.text.now
