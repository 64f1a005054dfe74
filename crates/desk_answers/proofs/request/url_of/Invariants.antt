use Rattle.std.proofs.Common.{◌≡◌, length}
use Rattle.form_urlencoded.specs.Parse.{raw_pairs_left}
use Rattle.session_model.specs.Routes.{url_in}
use Rattle.desk_answers.proofs.request.url_of.Given as goal

abbrev pub invariant-loop-name : goal.invariant-loop-name
invariant-loop-name l = url_in (raw_pairs_left l.pairs) ≡ url_in (raw_pairs_left l.initial.pairs)

abbrev pub decreases-loop-name : goal.decreases-loop-name
decreases-loop-name l = length (raw_pairs_left l.pairs)
