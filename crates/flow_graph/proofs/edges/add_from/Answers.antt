use Rattle.std.proofs.Common.{ℕ, ◌<◌, List, length, sym, subst}
use Rattle.std.proofs.lemmas.Result.{on_ok_weaker}
use Rattle.flow_graph.proofs.Leading.{leads_here, leads_nowhere}
use Rattle.flow_graph.proofs.edges.add_from.Goals as goal

pub decode-requires-clause-inside : goal.decode-requires-clause-inside
decode-requires-clause-inside c =
    let P : List ℕ → Type 0 = λ code. c.args.pc < length code in
    subst P (sym c.code-code.ensures.code) ((c.starts_follow_one_another.ensures c.args.m.now.code).within_code c.args.pc c.requires)

pub returns-in-Ok : goal.returns-in-Ok
returns-in-Ok c = on_ok_weaker c.add_leads.result (λ d. leads_here c.args.edges.now.items c.add_leads.new.edges.items c.args.m.now.code c.code-code.result.now c.args.pc c.in-Ok.instr c.code-code.ensures.code c.requires c.in-Ok.ensures.exact d) c.add_leads.ensures

pub returns-in-Err : goal.returns-in-Err
returns-in-Err c = leads_nowhere c.args.edges.now.items c.args.m.now.code c.code-code.result.now c.args.pc c.in-Err.field-0 c.code-code.ensures.code c.in-Err.ensures.exact
