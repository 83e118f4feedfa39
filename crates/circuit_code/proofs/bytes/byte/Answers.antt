use Rattle.circuit_build.proofs.Steps.{next, so}
use Rattle.circuit_code.proofs.bytes.byte.Goals as goal
use Rattle.std.proofs.Common.{ap, ◌∙◌, arith}
use Rattle.netlist.specs.Meaning.{word_on}
use Rattle.circuit_cycles.specs.Words.{takes_at_a}
use Rattle.circuit_cycles.specs.Core.{byte_place}
use Rattle.circuit_code.proofs.Addresses.{popped_or}
use Rattle.circuit_code.proofs.ByteWords.{byte_within, place_fits}

pub returns-clause-gives : goal.returns-clause-gives
returns-clause-gives c =
    so (next (next (next (next (next (next c.takes_at_a-at_a.ensures.gives c.byte_place-place.ensures.gives) c.part-word.ensures.gives) (c.fit-word.ensures.kept (omega (arith, c.part-word.ensures.width)))) c.less-is_within.ensures.gives) c.byte_of-read.ensures.gives) c.choose.ensures.gives)
    (λ ws f n core s.
    let place = popped_or (takes_at_a core.word) (f.0.0.0.0.0.1 (takes_at_a core.word) (f.0.0.0.0.0.0 core.word s.word)) s.registers.machine.a s.registers.machine.jpc in
    byte_within (byte_place core.word core.a core.jpc) core.words core.ring_out (place_fits core.word core.a core.jpc s.registers.machine.jpc_fits) f.1 f.0.0.1 (f.0.0.0.1 ∙ f.0.0.0.0.1) place s.registers.method.words
    f.0.1 s.registers.read_outs.ring (ap (λ x. word_on ws x) c.constant.ensures))
