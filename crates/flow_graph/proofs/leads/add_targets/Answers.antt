use Rattle.std.proofs.Common.{◌≡◌, true, sym, ap, ◌∙◌}
use Rattle.std.proofs.lemmas.Result.{on_ok_weaker}
use Rattle.opcodes.specs.Row as opcodes
use Rattle.opcodes.specs.Target.{targets_of}
use Rattle.flow_graph.specs.Naming.{IsNamed, IsNamedBy, goes_to_targets}
use Rattle.flow_graph.proofs.Leading.{edges_alike}
use Rattle.flow_graph.proofs.leads.add_targets.Goals as goal

pub add_named-requires-clause-targets : goal.add_named-requires-clause-targets
add_named-requires-clause-targets c =
    let goes : goes_to_targets (opcodes.row_of c.args.instr.now.op).kind ≡ true = ap goes_to_targets (sym c.kind.ensures) ∙ sym c.leads_to_targets.ensures ∙ c.if-leads_to_targets.true in
    c.requires.targets goes

pub returns-then-leads_to_targets : goal.returns-then-leads_to_targets
returns-then-leads_to_targets c =
    let kind = (opcodes.row_of c.args.instr.now.op).kind in
    let named = targets_of c.args.code.now c.args.pc c.args.instr.now in
    let goes : goes_to_targets kind ≡ true = ap goes_to_targets (sym c.kind.ensures) ∙ sym c.leads_to_targets.ensures ∙ c.if-leads_to_targets.true in
    on_ok_weaker c.add_named.result (λ d. edges_alike c.args.edges.now.items c.add_named.new.edges.items c.args.pc (IsNamed named) (IsNamedBy kind named) (λ q h. (goes, h)) (λ q h. h.1) d) c.add_named.ensures
