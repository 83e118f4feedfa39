use Rattle.circuit_build.proofs.Sets.{ports_are, ports_past}
use Rattle.circuit_build.proofs.parts.set_ports.Goals as goal

pub returns-then-k-memories : goal.returns-then-k-memories
returns-then-k-memories c =
    ports_are c.args.memories.now c.args.k c.index-memories-k.result c.index-memories-k-then-k-memories.result c.args.write c.args.read c.if-k-memories.true

pub returns-else-k-memories : goal.returns-else-k-memories
returns-else-k-memories c = ports_past c.args.memories.now c.args.k c.args.write c.args.read c.if-k-memories.false
