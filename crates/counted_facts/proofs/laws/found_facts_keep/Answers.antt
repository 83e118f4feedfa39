use Rattle.counted_facts.proofs.Holding.{found_facts_keep}
use Rattle.counted_facts.proofs.laws.found_facts_keep.Goals as goal

pub returns : goal.returns
returns c =
    found_facts_keep c.steps_follow_walks.ensures c.rows_are_of_their_kinds.ensures c.fitting_states_are_well_formed.ensures c.first_walks_stand.ensures.unknown c.activations_are_trees.ensures
    c.activations_are_walks.ensures c.runs_hold_known.ensures c.staying_paths_keep.ensures c.live_entries_are_entries.ensures
