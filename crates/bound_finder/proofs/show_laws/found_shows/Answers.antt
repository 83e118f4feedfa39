use Rattle.bound_finder.proofs.Showing.{found_shows}
use Rattle.bound_finder.proofs.show_laws.found_shows.Goals as goal

pub returns : goal.returns
returns c =
    found_shows c.starts_follow_one_another.ensures c.rows_are_of_their_kinds.ensures c.calls_are_invokes.ensures c.called_fit.ensures c.renumbered_stays_accepted.ensures.accepted c.graphs_are_moved.ensures.graphs
    c.graphs_are_moved.ensures.renumbered c.moved_reaches_exit.ensures
