use mathlib.Core.List.{not-mem-nil}
use Rattle.tests_service.proofs.service.serve_clients.Goals as goal

-- the runtime holds no reference
pub drop-listener-requires-lives-T-Destruct : goal.drop-listener-requires-lives-T-Destruct
drop-listener-requires-lives-T-Destruct g c κs within a m = absurd (not-mem-nil (c.type_bounds.static-R a m))

pub drop-listener-requires-2-lives-T-Destruct : goal.drop-listener-requires-2-lives-T-Destruct
drop-listener-requires-2-lives-T-Destruct g c κs within a m = absurd (not-mem-nil (c.type_bounds.static-R a m))
