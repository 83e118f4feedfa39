use Rattle.memory_laws.proofs.Smaller.{heap_need_suffices}
use Rattle.memory_laws.proofs.laws.heap_need_suffices.Goals as goal

pub returns : goal.returns
returns c =
    heap_need_suffices c.fitting_states_are_well_formed.ensures c.the_boot_state_fits.ensures c.typed_programs_keep.ensures c.runs_have_walks.ensures c.first_walks_stand.ensures.boot c.rows_are_of_their_kinds.ensures
    c.method_graphs_exist.ensures c.walks_are_of_graphs.ensures c.lines_follow_one_another.ensures.one c.lines_follow_one_another.ensures.apart c.one_stands_before.ensures.line
