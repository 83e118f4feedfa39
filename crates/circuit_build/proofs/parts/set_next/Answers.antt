use Rattle.circuit_build.proofs.Sets.{next_is, next_past}
use Rattle.circuit_build.proofs.parts.set_next.Goals as goal

pub returns-then-k-registers : goal.returns-then-k-registers
returns-then-k-registers c = next_is c.args.registers.now c.args.k _ c.args.next c.if-k-registers.true

pub returns-else-k-registers : goal.returns-else-k-registers
returns-else-k-registers c = next_past c.args.registers.now c.args.k c.args.next c.if-k-registers.false
