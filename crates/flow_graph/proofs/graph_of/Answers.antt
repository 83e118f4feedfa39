use Rattle.std.proofs.Common.{◌≡◌, length, map, sym, ap, ◌∙◌}
use Rattle.std.proofs.lemmas.List.{length-map}
use Rattle.std.proofs.lemmas.Result.{IfOk-weaker}
use Rattle.loop_nest.specs.Digraph.{Digraph}
use Rattle.flow_graph.specs.declared.numbering.MethodGraph.{MethodGraph}
use Rattle.flow_graph.proofs.Placing.{by_places, ok_both, place_of_number}
use Rattle.flow_graph.proofs.graph_of.Goals as goal

pub returns : goal.returns
returns c =
    let g = c.in_ok-whole.whole in
    let d = c.in_ok-compacted.field-0.graph in
    let nodes = c.in_ok-compacted.field-0.nodes in
    let h = c.in_ok-compacted.ensures in
    let both = ok_both c.placed.result (λ (m : MethodGraph). m.graph ≡ d) (λ (m : MethodGraph). m.nodes ≡ map place_of_number nodes) c.placed.ensures.graph c.placed.ensures.nodes in
    IfOk-weaker c.placed.result (λ (m : MethodGraph). (m.graph ≡ d) × (m.nodes ≡ map place_of_number nodes)) _ (λ m made P n of. record {
      whole = g;
      is = c.in_ok-whole.ensures.graph P n of;
      compact = by_places g d m.graph nodes m.nodes h.compact made.0 made.1;
      long = ap length made.1 ∙ length-map nodes place_of_number ∙ h.long ∙ sym (ap (λ (x : Digraph). x.nodes) made.0);
    }) both
