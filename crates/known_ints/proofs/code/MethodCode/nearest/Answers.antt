use Rattle.std.proofs.Common.{◌≡◌, ℕ, ◌*◌, Bool, List, refl, sym, subst}
use Rattle.std.specs.Prelude.{IfOk}
use Rattle.std.proofs.lemmas.Result.{IfOk-weaker}
use Rattle.bytecode_model.specs.Program.{Program}
use Rattle.method_flow.specs.Graphs.{IsGraphOf}
use Rattle.method_flow.specs.Nodes.{Node, At, number_of}
use Rattle.loop_rules.specs.Further.Last.{AreNearest, StopsAtWrites}
use Rattle.loop_rules.specs.Further.Search.{AreBacks, IsPassed}
use Rattle.known_ints.specs.Code.{CodeOf, StopsAtLocals}
use Rattle.known_ints.proofs.code.MethodCode.nearest.Goals as goal

pub returns : goal.returns
returns g c =
    let Stop = g.S.Stops.stops_at c.args.stops.now in
    let gr = c.self.inside.graph in
    let backs = c.deref.result.now in
    let place = c.args.place in
    let routes = c.self.invariant in
    let skips = subst (AreBacks gr routes.flags) (sym c.deref.ensures.value) routes.skips in
    subst
    (λ (code : CodeOf).
    IfOk c.nearest.result
    (λ found. (P : Program) (m k : ℕ) → IsGraphOf P m code.graph → StopsAtWrites P m k Stop → StopsAtLocals code.parts Stop → ¬ Stop (2 * place) → AreNearest P m k (At place) Stop found))
    c.self.view_is
    (IfOk-weaker c.nearest.result
    (λ found. (P : Program) (m k : ℕ) (u : Node) (idle : List Bool) → IsGraphOf P m gr → AreBacks gr idle backs → IsPassed idle Stop → StopsAtWrites P m k Stop → number_of u ≡ 2 * place
    → ¬ Stop (2 * place) → AreNearest P m k u Stop found)
    (λ found. (P : Program) (m k : ℕ) → IsGraphOf P m gr → StopsAtWrites P m k Stop → StopsAtLocals c.self.inside.parts.items Stop → ¬ Stop (2 * place) → AreNearest P m k (At place) Stop found)
    (λ found h P m k of stops locals go.
    h P m k (At place) routes.flags of skips (λ x flag stop. let i = routes.idle.each x flag in locals i.0 i.2 (subst Stop i.1 stop)) stops refl go)
    c.nearest.ensures)
