use Rattle.bound_laws.proofs.Existing.{numbers_exist}
use Rattle.bound_laws.proofs.laws.numbers_exist.Goals as goal

pub returns : goal.returns
returns c =
    numbers_exist
    (record {
      cycles = c.cycles_take_back_edges.ensures;
      nested = c.loops_are_nested.ensures;
      dominate = c.headers_dominate_members.ensures;
      antisymmetric = c.dominance_is_antisymmetric.ensures;
      moves = c.graphs_are_moved.ensures.graphs;
      even = c.headers_are_instructions.ensures;
      nests = c.nests_exist.ensures;
    })
    c.greatest_walks_exist.ensures c.methods_have_code.ensures c.live_graphs_exist.ensures c.typed_methods_reach_starts.ensures
