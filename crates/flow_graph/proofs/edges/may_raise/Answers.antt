use Rattle.std.proofs.Common.{sym, ◌∙◌}
use Rattle.flow_graph.proofs.Opcodes.{no_raise}
use Rattle.flow_graph.proofs.edges.may_raise.Goals as goal

pub returns-then-not-raises : goal.returns-then-not-raises
returns-then-not-raises c = sym (no_raise c.args.code.now c.args.pc (sym c.raises.ensures ∙ c.if-not-raises.true))
