use Rattle.std.proofs.Common.{sym, ◌∙◌}
use Rattle.flow_graph.proofs.Opcodes.{no_return}
use Rattle.flow_graph.proofs.whole.is_return.Goals as goal

pub returns-then-not-returns : goal.returns-then-not-returns
returns-then-not-returns c = sym (no_return c.args.code.now c.args.pc (sym c.returns.ensures ∙ c.if-not-returns.true))
