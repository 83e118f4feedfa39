use Rattle.loop_nest.proofs.Nesting.{header_dominates_members}
use Rattle.loop_nest.proofs.laws.headers_dominate_members.Goals as goal

pub returns : goal.returns
returns c = header_dominates_members
