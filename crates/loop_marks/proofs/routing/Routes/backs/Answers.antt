use Rattle.std.proofs.Common.{subst}
use Rattle.std.specs.Prelude.{IfOk}
use Rattle.loop_nest.specs.Digraph.{Digraph}
use Rattle.loop_rules.specs.Further.Search.{AreBacks}
use Rattle.loop_marks.proofs.routing.Routes.backs.Goals as goal

pub returns : goal.returns
returns c = subst (λ (d : Digraph). IfOk c.backs.result (λ backs. AreBacks d c.args.idle.now backs.items)) c.self.view_is c.backs.ensures
