use Rattle.osv_prim.proofs.Normal.{normal_name-normal_name}
use Rattle.osv_prim.proofs.laws.a_normal_name_stays.Goals as goal

pub returns : goal.returns
returns c = normal_name-normal_name
