use Rattle.flow_graph.proofs.Noting.{are_code_edges}
use Rattle.flow_graph.proofs.edges.code_edges.Goals as goal

pub returns : goal.returns
returns c = λ e.
    let is = are_code_edges c.in_ok-edges.edges.items c.add_all_leads.new.edges.items c.add_raises.new.edges.items c.args.m.now c.args.goes.now c.in_ok-edges.ensures.items c.in_ok-add_all_leads.ensures c.in_ok-add_raises.ensures e in
    let same = c.rising_edges.ensures.same e in
    (λ has. is.0 (same.0 has), λ x. same.1 (is.1 x))
