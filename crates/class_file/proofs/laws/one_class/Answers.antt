use Rattle.class_file.proofs.ClassLaws.{one_of}
use Rattle.class_file.proofs.laws.one_class.Goals as goal

pub returns : goal.returns
returns c = one_of c.one_pool.ensures c.one_inside.ensures
