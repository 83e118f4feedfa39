use Rattle.counted_laws.proofs.Booting.{runs_hold_known}
use Rattle.counted_laws.proofs.laws.runs_hold_known.Goals as goal

pub returns : goal.returns
returns c =
    runs_hold_known c.fitting_states_are_well_formed.ensures c.rows_are_of_their_kinds.ensures c.first_walks_stand.ensures.boot c.lines_follow_one_another.ensures.one c.lines_follow_one_another.ensures.apart
    c.one_stands_before.ensures.line c.steps_follow_walks.ensures c.typed_programs_keep.ensures
