use Rattle.loop_nest.proofs.Parts.{part_is_reducible}
use Rattle.loop_nest.proofs.PartLoops.{part_has_back_edge, part_has_header, part_has_member}
use Rattle.loop_nest.proofs.laws.parts_are_reducible.Goals as goal

pub returns-clause-reducible : goal.returns-clause-reducible
returns-clause-reducible c = part_is_reducible

pub returns-clause-back_edges : goal.returns-clause-back_edges
returns-clause-back_edges c = part_has_back_edge

pub returns-clause-headers : goal.returns-clause-headers
returns-clause-headers c = part_has_header

pub returns-clause-members : goal.returns-clause-members
returns-clause-members c = part_has_member
