use Rattle.circuit_build.proofs.Steps.{next, so}
use Rattle.machine_circuit.proofs.load.next_next_block.Goals as goal
use Rattle.std.proofs.Common.{ap, ◌∙◌, subst, sym, ◌^◌, ◌≤◌}
use Rattle.std.specs.Prelude.{◌==◌}
use Rattle.netlist.specs.Meaning.{bit_of}
use Rattle.circuit_cycles.specs.Core.{fills_word, takes_block}
use Rattle.circuit_core.proofs.Choosing.{both, chosen}
use Rattle.machine_circuit.proofs.Moving.{moved_behind}
use Rattle.machine_circuit.specs.Shapes.{shape_of}

pub returns-clause-gives : goal.returns-clause-gives
returns-clause-gives c =
    so (next (next (next c.is-is_new.ensures.gives c.and-takes.ensures.gives) c.behind-next.ensures.gives) c.choose.ensures.gives)
    (λ ws f n core s l w.
    let new = f.0.0.0 ∙ ap (λ x. bit_of (x == 0)) s.registers.method.in_block in
    let next = moved_behind core.next_block c.args.shape.now.blocks c.args.cycle.now.registers.method.next_block.width s.registers.method.next_block w.next_block
    (subst (λ x. c.args.shape.now.blocks ≤ 2 ^ x) (sym c.requires.next_block) c.args.shape.now.block_places.enough) f.0.1 in
    chosen (takes_block (shape_of c.args.shape.now) core) f.1 (both (fills_word (shape_of c.args.shape.now) core) (core.in_block == 0) f.0.0.1 l.writes new) next s.registers.method.next_block)
