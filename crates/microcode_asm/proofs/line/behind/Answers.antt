use Rattle.microcode_asm.proofs.Lines.{drop_range}
use Rattle.microcode_asm.proofs.line.behind.Goals as goal

pub returns : goal.returns
returns c = drop_range c.args.parts.now c.args.count
