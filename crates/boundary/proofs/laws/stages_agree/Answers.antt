use Rattle.boundary.proofs.Stages.{stages_agree}
use Rattle.boundary.proofs.laws.stages_agree.Goals as goal

pub returns : goal.returns
returns c = stages_agree c.entries_are_reached_by_dispatch.ensures.apart
