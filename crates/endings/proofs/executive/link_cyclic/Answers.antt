use Rattle.endings.specs.Executive.{executive_class}
use Rattle.endings.proofs.executive.link_cyclic.Goals as goal

pub returns-in-Err-clause-fault : goal.returns-in-Err-clause-fault
returns-in-Err-clause-fault c = c.not_linked.ensures executive_class c.in-Err.ensures.refused
