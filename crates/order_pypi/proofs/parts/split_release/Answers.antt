use Rattle.order_pypi.proofs.Fronts.{release_cut, release_shorter, release_bytes}
use Rattle.order_pypi.proofs.parts.split_release.Goals as goal

pub slice_bounds-result-count : goal.slice_bounds-result-count
slice_bounds-result-count c = rw c.behind_release-rest.ensures (release_shorter c.args.text.now)

pub returns-clause-run : goal.returns-clause-run
returns-clause-run c = rw c.behind_release-rest.ensures (release_cut c.args.text.now)

pub returns-clause-bytes : goal.returns-clause-bytes
returns-clause-bytes c = rw (c.behind_release-rest.ensures, release_cut c.args.text.now) (release_bytes c.args.text.now)
