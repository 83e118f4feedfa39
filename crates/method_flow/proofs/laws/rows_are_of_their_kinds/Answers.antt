use Rattle.method_flow.proofs.Kinding.{rows_are_of_their_kinds}
use Rattle.method_flow.proofs.laws.rows_are_of_their_kinds.Goals as goal

pub returns : goal.returns
returns c = rows_are_of_their_kinds c.targets_fit_the_kind.ensures
