use Rattle.memory_bound.proofs.laws.heap_laws.Goals as goal

pub returns : goal.returns
returns c = record {
  moves = c.graphs_are_moved.ensures.graphs;
  nests = c.moved_is_nest.ensures.nest;
  one = c.graphs_are_one.ensures.whole;
  instructions = c.headers_are_instructions.ensures;
  dominates = c.headers_dominate_members.ensures;
  nested = c.loops_are_nested.ensures;
  antisymmetric = c.dominance_is_antisymmetric.ensures;
  within = c.reached_within_bounds.ensures;
}
