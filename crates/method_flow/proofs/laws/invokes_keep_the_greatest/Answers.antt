use Rattle.method_flow.proofs.Invoking.{invokes_keep_the_greatest}
use Rattle.method_flow.proofs.laws.invokes_keep_the_greatest.Goals as goal

pub returns : goal.returns
returns c = invokes_keep_the_greatest c.instructions_are_read.ensures.forms c.costs_are_small.ensures.opcodes
