use Rattle.bound_finder.proofs.KnownIs.{known_is}
use Rattle.bound_finder.proofs.found_laws.known_is.Goals as goal

pub returns : goal.returns
returns c =
    known_is (record {
      walks = record {
        graphs = c.graphs_are_moved.ensures.graphs;
        exits = c.moved_reaches_exit.ensures;
        nests = c.moved_is_nest.ensures.nest;
        greatest = c.moved_is_greatest.ensures.greatest;
        walks = c.moved_is_greatest.ensures.walks;
        iterations = c.moved_is_greatest.ensures.iterations;
        values_told = c.values_are_told.ensures.value;
        iterations_told = c.values_are_told.ensures.iterations;
        invokes = c.calls_are_invokes.ensures;
        headers = c.headers_are_instructions.ensures;
        lies = c.lies_on_bounded_walk.ensures;
      };
      starts = c.starts_follow_one_another.ensures;
      kinds = c.rows_are_of_their_kinds.ensures;
      ending = c.ending_is_a_walk.ensures;
      costs = c.costs_are_small.ensures.opcodes;
      raises = c.costs_are_small.ensures.raise;
      called = c.called_fit.ensures;
      live_graphs = c.graphs_are_one.ensures.live;
      charged_loops = c.charged_loops_are_one.ensures;
      charges = c.charges_are_one.ensures;
    })
