use Rattle.std.proofs.lemmas.List.Filters.{dedup_is}
use Rattle.flow_graph.proofs.Rising.{pair_eq, edges_same, edges_rise}
use Rattle.flow_graph.proofs.sorting.rising_edges.Goals as goal

pub returns-clause-same : goal.returns-clause-same
returns-clause-same c =
    let sorted = c.sort_unstable.new.self.items in
    edges_same c.args.edges.items sorted c.dedup.new.self.items c.sort_unstable.ensures.permutation (dedup_is pair_eq sorted c.dedup.new.self.items c.dedup.ensures.filtered)

pub returns-clause-rising : goal.returns-clause-rising
returns-clause-rising c =
    let sorted = c.sort_unstable.new.self.items in
    edges_rise sorted c.dedup.new.self.items c.sort_unstable.ensures.sorted (dedup_is pair_eq sorted c.dedup.new.self.items c.dedup.ensures.filtered)
