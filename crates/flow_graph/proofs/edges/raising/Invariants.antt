use Rattle.std.proofs.Common.{◌≡◌, filter, take}
use Rattle.opcodes.specs.Instruction.{decoded}
use Rattle.flow_graph.specs.Edges.{raises_in}
use Rattle.flow_graph.proofs.edges.raising.Given as goal

abbrev pub invariant-loop-pc : goal.invariant-loop-pc
invariant-loop-pc l = l.places.items ≡ filter (λ p. raises_in (decoded l.code p)) (take l.pc-index l.starts)
