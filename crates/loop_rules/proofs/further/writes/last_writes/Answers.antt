use Rattle.std.proofs.Common.{◌≡◌, ℕ, ◌/◌, Bool, false, List, [], ◌∷◌, sym, ap, ◌∙◌, subst}
use Rattle.std.proofs.lemmas.Bool.{both_ways}
use Rattle.std.proofs.lemmas.Result.{IfOk-weaker}
use Rattle.bytecode_model.specs.Program.{Program}
use Rattle.method_flow.specs.Graphs.{IsGraphOf}
use Rattle.method_flow.specs.Nodes.{Node, IsEdge, IsReached, number_of}
use Rattle.loop_rules.specs.Further.Search.{AreBacks, IsPassed}
use Rattle.loop_rules.specs.Further.Last.{AreLastWrites, AreNearest, StopsAtWrites, StopsAtWritesAlone}
use Rattle.loop_rules.proofs.FurtherLemmas.Lasting.{nearest_are_last, stops_at_writes, writer_is_last}
use Rattle.loop_rules.proofs.further.writes.last_writes.Goals as goal

pub returns-then-is_stop : goal.returns-then-is_stop
returns-then-is_stop g c =
    let gr = c.args.g.now in
    let node = c.args.node in
    let Stop = g.S.Stops.stops_at c.args.writes.now in
    let stop : Stop node = c.is_stop.ensures.0 c.if-is_stop.true in
    IfOk-weaker c.one_write.result
    (λ found. (found.places.items ≡ (node / 2) ∷ []) × (found.unwritten ≡ false))
    (λ found. (P : Program) (m k : ℕ) (u : Node) (idle : List Bool) → IsGraphOf P m gr → AreBacks gr idle c.args.backs.now → IsPassed idle Stop → StopsAtWritesAlone P m k Stop → number_of u ≡ node → IsReached (IsEdge P m) u → AreLastWrites P m k u found)
    (λ found h P m k u idle of are passed alone e come.
    writer_is_last P m k u ((alone u).0 (subst Stop (sym e) stop)) come found (h.0 ∙ ap (λ (x : ℕ). (x / 2) ∷ []) (sym e)) h.1)
    c.one_write.ensures

pub returns-else-is_stop : goal.returns-else-is_stop
returns-else-is_stop g c =
    let gr = c.args.g.now in
    let node = c.args.node in
    let Stop = g.S.Stops.stops_at c.args.writes.now in
    let go : ¬ Stop node = λ stop. both_ways c.is_stop.result c.if-is_stop.false (c.is_stop.ensures.1 stop) in
    IfOk-weaker c.nearest.result
    (λ found. (P : Program) (m k : ℕ) (u : Node) (idle : List Bool) → IsGraphOf P m gr → AreBacks gr idle c.args.backs.now → IsPassed idle Stop → StopsAtWrites P m k Stop → number_of u ≡ node → ¬ Stop node → AreNearest P m k u Stop found)
    (λ found. (P : Program) (m k : ℕ) (u : Node) (idle : List Bool) → IsGraphOf P m gr → AreBacks gr idle c.args.backs.now → IsPassed idle Stop → StopsAtWritesAlone P m k Stop → number_of u ≡ node → IsReached (IsEdge P m) u → AreLastWrites P m k u found)
    (λ found h P m k u idle of are passed alone e come. nearest_are_last P m k u Stop alone found (h P m k u idle of are passed (stops_at_writes P m k Stop alone) e go))
    c.nearest.ensures
