use Rattle.circuit_build.proofs.Steps.{next, so}
use Rattle.circuit_code.proofs.rom.rom_place.Goals as goal
use Rattle.std.proofs.Common.{ap, ◌∙◌, ◌%◌, ◌^◌}
use Rattle.std.specs.Prelude.{slice_index}
use Rattle.circuit_cycles.specs.Core.{byte, dispatches, is_taken, runs}
use Rattle.circuit_code.proofs.Addresses.{ahead, following}
use Rattle.circuit_code.proofs.ByteWords.{byte_below, byte_fits}
use Rattle.circuit_core.proofs.Choosing.{chosen}

pub returns-clause-gives : goal.returns-clause-gives
returns-clause-gives c =
    so (next (next (next (next (next c.plus-one.ensures.gives c.plus-two.ensures.gives) c.choose-advanced.ensures.gives) c.rows-rows.ensures.gives) c.table-entry.ensures.gives) c.followed.ensures.gives)
    (λ ws f n core s y.
    following (is_taken core) (dispatches core) (core.word % 2 ^ 11) (f.1 n core s)
    (f.0.1 ∙ ap (λ x. slice_index c.rows-rows.result.items x) y ∙ f.0.0.1.1 (byte core) (byte_below core) (byte_fits core))
    (chosen (runs core) f.0.0.0.1 s.runs (ahead core.mpc 2 11 f.0.0.0.0.1 c.args.cycle.now.registers.machine.mpc_width s.registers.machine.mpc)
    (ahead core.mpc 1 11 f.0.0.0.0.0 c.args.cycle.now.registers.machine.mpc_width s.registers.machine.mpc)))
