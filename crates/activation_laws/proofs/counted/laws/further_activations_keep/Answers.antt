use Rattle.activation_laws.proofs.CountedLemmas.Holding.{further_activations_keep}
use Rattle.activation_laws.proofs.counted.laws.further_activations_keep.Goals as goal

pub returns : goal.returns
returns c =
    further_activations_keep c.steps_follow_walks.ensures c.rows_are_of_their_kinds.ensures c.fitting_states_are_well_formed.ensures c.first_walks_stand.ensures.unknown c.further_paths_keep.ensures c.runs_hold_known.ensures
    c.live_graphs_keep.ensures c.activations_are_trees.ensures
