use Rattle.memory_bound.proofs.Shaping.{digraph_of}
use Rattle.memory_bound.proofs.shapes.with_all_exits.Goals as goal

pub new-requires : goal.new-requires
new-requires c =
    digraph_of c.args.graph c.nodes-nodes.result c.into_parts-edges.result.0.items c.in_ok-exits.exits.items c.nodes-nodes.ensures.valid c.nodes-nodes.ensures.nodes c.into_parts-edges.ensures.edges
    c.in_ok-exits.ensures
