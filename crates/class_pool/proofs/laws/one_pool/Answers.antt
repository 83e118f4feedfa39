use Rattle.class_pool.proofs.PoolLaws.{one_reading}
use Rattle.class_pool.proofs.laws.one_pool.Goals as goal

pub returns : goal.returns
returns c = one_reading
