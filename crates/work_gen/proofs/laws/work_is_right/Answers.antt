use Rattle.work_gen.proofs.WorkLaws.{work_right}
use Rattle.work_gen.proofs.laws.work_is_right.Goals as goal

pub returns : goal.returns
returns c = work_right c.items_are_few.ensures
