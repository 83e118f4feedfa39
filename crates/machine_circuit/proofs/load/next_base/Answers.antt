use Rattle.circuit_build.proofs.Steps.{next, so}
use Rattle.machine_circuit.proofs.load.next_base.Goals as goal
use Rattle.std.proofs.Common.{ap, ◌∙◌, subst, sym, ◌*◌, ◌^◌, ◌<◌}
use Rattle.circuit_cycles.specs.Core.{found, switches}
use Rattle.circuit_core.proofs.Choosing.{chosen}
use Rattle.machine_circuit.specs.Loading.{is_hit}
use Rattle.machine_circuit.proofs.Finding.{block_fits}
use Rattle.machine_circuit.proofs.Moving.{place_found}
use Rattle.machine_circuit.specs.Shapes.{shape_of}

pub returns-clause-gives : goal.returns-clause-gives
returns-clause-gives c =
    so (next (next c.first_place-free.ensures.gives c.choose-new.ensures.gives) c.choose.ensures.gives)
    (λ ws f n core s l t w.
    let free = f.0.0 (subst (λ x. x < c.args.shape.now.blocks) (sym s.registers.method.next_block) w.next_block)
    (subst (λ x. x * c.args.shape.now.block_words < 2 ^ c.args.shape.now.ring_bits) (sym s.registers.method.next_block)
    (block_fits core.next_block c.args.shape.now.blocks c.args.shape.now.block_words c.args.shape.now.ring_words c.args.shape.now.ring_bits w.next_block
    c.args.shape.now.ring c.args.shape.now.some_words c.args.shape.now.ring_places.enough)) ∙ ap (λ x. x * c.args.shape.now.block_words) s.registers.method.next_block in
    chosen (switches core) f.1 l.switches
    (chosen (is_hit (found core)) f.0.1 t.is_hit t.base free ∙ place_found (shape_of c.args.shape.now) (found core) (core.next_block * c.args.shape.now.block_words))
    s.registers.method.base)
