use Rattle.loop_nest.proofs.Nesting.{loop_is_entered_at_header, edges_to_header_are_back_edges}
use Rattle.loop_nest.proofs.laws.loops_are_entered_at_headers.Goals as goal

pub returns-clause-entered : goal.returns-clause-entered
returns-clause-entered c = loop_is_entered_at_header

pub returns-clause-back : goal.returns-clause-back
returns-clause-back c = edges_to_header_are_back_edges
