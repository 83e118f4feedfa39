use Rattle.method_flow.specs.Nodes.{IsEdge}
use Rattle.method_flow.specs.Live.{IsLiveEdge}
use Rattle.bound_rules.specs.Sections.{IsSectionEdge}
use Rattle.bound_rules.proofs.Rising.{one_graph}
use Rattle.bound_rules.proofs.laws.graphs_are_one.Goals as goal

pub returns-clause-whole : goal.returns-clause-whole
returns-clause-whole c = λ P m g h a b. one_graph (IsEdge P m) P m g h a b

pub returns-clause-live : goal.returns-clause-live
returns-clause-live c = λ P m g h a b. one_graph (IsLiveEdge P m) P m g h a b

pub returns-clause-section : goal.returns-clause-section
returns-clause-section c = λ P m told g h a b. one_graph (IsSectionEdge P m told) P m g h a b
