use Rattle.circuit_build.proofs.Steps.{next, so}
use Rattle.machine_circuit.proofs.load.next_in_block.Goals as goal
use Rattle.std.proofs.Common.{ap, subst, sym, ◌^◌, ◌≤◌}
use Rattle.netlist.specs.Meaning.{word_on}
use Rattle.circuit_cycles.specs.Core.{fills_word, misses}
use Rattle.circuit_core.proofs.Choosing.{chosen}
use Rattle.machine_circuit.proofs.Moving.{moved_behind}
use Rattle.machine_circuit.specs.Shapes.{shape_of}

pub returns-clause-gives : goal.returns-clause-gives
returns-clause-gives c =
    so (next (next c.behind-next.ensures.gives c.choose-in_block.ensures.gives) c.choose.ensures.gives)
    (λ ws f n core s l w.
    let next = moved_behind core.in_block c.args.shape.now.block_words c.args.cycle.now.registers.method.in_block.width s.registers.method.in_block w.in_block
    (subst (λ x. c.args.shape.now.block_words ≤ 2 ^ x) (sym c.requires.in_block) c.args.shape.now.in_block_places.enough) f.0.0 in
    chosen (misses core) f.1 l.misses (ap (λ x. word_on ws x) c.constant.ensures)
    (chosen (fills_word (shape_of c.args.shape.now) core) f.0.1 l.writes next s.registers.method.in_block))
