use Rattle.circuit_build.proofs.Steps.{next, so}
use Rattle.machine_circuit.proofs.circuit.next_ring_place.Goals as goal
use Rattle.std.proofs.Common.{◌∙◌, ◌^◌, ◌<◌, ap, subst, sym}
use Rattle.netlist.specs.Meaning.{word_on}
use Rattle.circuit_cycles.specs.Words.{takes_at_a}
use Rattle.circuit_cycles.specs.Core.{next_a_taken, next_jpc, next_word}
use Rattle.circuit_cycles.specs.Core.{ring_place}
use Rattle.circuit_code.proofs.Addresses.{popped_or}
use Rattle.machine_circuit.proofs.Finding.{byte_place_fits}

pub returns-clause-gives : goal.returns-clause-gives
returns-clause-gives c =
    so (next (next (next c.next_a_taken-a.ensures.gives c.takes_at_a-at_a.ensures.gives) c.byte_place-place.ensures.gives) c.ring_place.ensures.gives)
    (λ ws f n core s h few.
    let at_a = takes_at_a (next_word core) in
    let place = popped_or at_a (f.0.1 at_a (f.0.0.1 (next_word core) h.word)) (f.0.0.0 n core s) h.jpc in
    f.1 (subst (λ x. x < 2 ^ 16) (sym place) (byte_place_fits (next_word core) (next_a_taken core) (next_jpc core) few))
    ∙ ap (λ x. ring_place c.args.shape.now.ring_bits c.args.shape.now.ring_words (word_on ws c.args.base) x) place)
