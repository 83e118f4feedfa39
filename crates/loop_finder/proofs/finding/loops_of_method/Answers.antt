use Rattle.std.proofs.Common.{[], refl, inl}
use Rattle.std.specs.Prelude.{slice_index}
use Rattle.std.proofs.lemmas.Result.{IfOk-weaker}
use Rattle.loop_acts.specs.Rules.{rules_by}
use Rattle.loop_finder.proofs.HeaderLemmas.{headed_is, none_unless_headed}
use Rattle.loop_finder.proofs.Ranking.{no_loops}
use Rattle.loop_finder.proofs.finding.loops_of_method.Goals as goal

pub returns-then-leads_up-clause-headers : goal.returns-then-leads_up-clause-headers
returns-then-leads_up-clause-headers c P m coded =
    let g = c.in_ok-graph.graph in
    let is = c.in_ok-graph.ensures.graph P m coded in
    let n = no_loops P m g is (c.leads_up.ensures.0 c.if-leads_up.true) in
    headed_is P m g is n.compact n.is [] n.leaves n.nest n.compact.nodes refl c.no_loops.result.headers (c.no_loops.ensures.headers n.compact.nodes)

pub returns-then-leads_up-clause-bounds : goal.returns-then-leads_up-clause-bounds
returns-then-leads_up-clause-bounds c P given m coded ints =
    let g = c.in_ok-graph.graph in
    let is = c.in_ok-graph.ensures.graph P m coded in
    let n = no_loops P m g is (c.leads_up.ensures.0 c.if-leads_up.true) in
    let node = slice_index n.compact.nodes in
    let moved = c.graphs_are_moved.ensures.graphs P m g n.compact.graph node (inl is) n.is.compact in
    none_unless_headed c.graphs_are_one.ensures.whole c.moved_is_nest.ensures.headers P (rules_by P given) m g is n.compact.graph node moved [] n.nest refl c.no_loops.result.bounds.items c.no_loops.ensures.bounds

pub returns-clause-headers : goal.returns-clause-headers
returns-clause-headers c =
    IfOk-weaker c.loops_of_graph.result _ _ (λ x are P m coded. are P m (c.in_ok-graph.ensures.graph P m coded)) c.loops_of_graph.ensures.headers

pub returns-clause-bounds : goal.returns-clause-bounds
returns-clause-bounds c =
    IfOk-weaker c.loops_of_graph.result _ _ (λ x are P given m coded ints. are P given m (c.in_ok-graph.ensures.graph P m coded) coded ints) c.loops_of_graph.ensures.bounds
