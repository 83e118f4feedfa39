use Rattle.activation_laws.proofs.counted.laws.found_loops_count.Goals as goal

pub returns : goal.returns
returns c P constants x h = record {
  graph = h.graph;
  is_graph = h.is_graph;
  cycles = c.reducible_cycles_are_loops.ensures P x.method h.graph h.is_graph h.reducible;
  counts = h.counted.counts;
}
