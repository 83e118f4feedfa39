use Rattle.std.proofs.Common.{◌≡◌, ℕ, Bool, List, subst}
use Rattle.std.specs.Prelude.{IfOk}
use Rattle.bytecode_model.specs.Program.{Program}
use Rattle.loop_nest.specs.Digraph.{Digraph}
use Rattle.method_flow.specs.Graphs.{IsGraphOf}
use Rattle.method_flow.specs.Nodes.{IsEdge, IsReached, Node, number_of}
use Rattle.loop_rules.specs.Further.Last.{AreLastWrites, StopsAtWritesAlone}
use Rattle.loop_rules.specs.Further.Search.{AreBacks, IsPassed}
use Rattle.loop_marks.proofs.routing.Routes.last_writes.Goals as goal

pub returns : goal.returns
returns g c =
    subst
    (λ (d : Digraph). IfOk c.last_writes.result (λ found. (P : Program) (m k : ℕ) (u : Node) (idle : List Bool) → IsGraphOf P m d → AreBacks d idle c.args.backs.now
    → IsPassed idle (g.S.Stops.stops_at c.args.writes.now) → StopsAtWritesAlone P m k (g.S.Stops.stops_at c.args.writes.now)
    → number_of u ≡ c.args.node → IsReached (IsEdge P m) u → AreLastWrites P m k u found))
    c.self.view_is c.last_writes.ensures
