use Rattle.std.proofs.Common.{arith}
use Rattle.opcodes.proofs.LengthLemmas.{fits, passes_end}
use Rattle.opcodes.proofs.decoder.length.Goals as goal

pub returns-then-pc-fixed : goal.returns-then-pc-fixed
returns-then-pc-fixed c = fits c.args.code.now c.args.pc c.fixed_length-fixed.result c.fixed_length-fixed.ensures (omega arith) (omega arith)

pub returns-else-pc-fixed : goal.returns-else-pc-fixed
returns-else-pc-fixed c = passes_end c.args.code.now c.args.pc c.fixed_length-fixed.result c.fixed_length-fixed.ensures (omega arith) (omega arith)
