use Rattle.circuit_build.proofs.Steps.{next, so}
use Rattle.machine_circuit.proofs.load.next_target.Goals as goal
use Rattle.std.proofs.Common.{ap, ◌∙◌, subst, sym, ◌*◌, ◌^◌, ◌<◌, ◌≤◌}
use Rattle.circuit_cycles.specs.Core.{fills_word, misses}
use Rattle.circuit_core.proofs.Choosing.{chosen}
use Rattle.machine_circuit.proofs.Finding.{block_fits}
use Rattle.machine_circuit.proofs.Moving.{moved_behind}
use Rattle.machine_circuit.specs.Shapes.{shape_of}

pub returns-clause-gives : goal.returns-clause-gives
returns-clause-gives c =
    so (next (next (next c.behind-next.ensures.gives c.choose-target.ensures.gives) c.first_place-free.ensures.gives) c.choose.ensures.gives)
    (λ ws f n core s l w.
    let free = f.0.1 (subst (λ x. x < c.args.shape.now.blocks) (sym s.registers.method.next_block) w.next_block)
    (subst (λ x. x * c.args.shape.now.block_words < 2 ^ c.args.shape.now.ring_bits) (sym s.registers.method.next_block)
    (block_fits core.next_block c.args.shape.now.blocks c.args.shape.now.block_words c.args.shape.now.ring_words c.args.shape.now.ring_bits w.next_block
    c.args.shape.now.ring c.args.shape.now.some_words c.args.shape.now.ring_places.enough)) ∙ ap (λ x. x * c.args.shape.now.block_words) s.registers.method.next_block in
    let width = c.args.cycle.now.registers.method.target_width ∙ c.requires.base in
    let next = moved_behind core.target c.args.shape.now.ring_words c.args.cycle.now.registers.method.target.width s.registers.method.target w.target
    (subst (λ x. c.args.shape.now.ring_words ≤ 2 ^ x) (sym width) c.args.shape.now.ring_places.enough) f.0.0.0 in
    chosen (misses core) f.1 l.misses free (chosen (fills_word (shape_of c.args.shape.now) core) f.0.0.1 l.writes next s.registers.method.target))
