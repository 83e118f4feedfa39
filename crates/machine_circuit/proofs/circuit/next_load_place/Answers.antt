use Rattle.circuit_build.proofs.Steps.{so}
use Rattle.machine_circuit.proofs.circuit.next_load_place.Goals as goal
use Rattle.std.proofs.Common.{◌<◌, subst, sym}
use Rattle.netlist.specs.Meaning.{word_on}
use Rattle.circuit_cycles.specs.Core.{next_word}
use Rattle.machine_circuit.proofs.Finding.{placed}

pub returns-clause-gives : goal.returns-clause-gives
returns-clause-gives c =
    so c.place_of.ensures.gives
    (λ ws f n core h.
    placed n (next_word core) (f (next_word core) h.word (subst (λ m. word_on ws c.args.next.now.vp < m) (sym h.places) (subst (λ x. x < n) (sym h.vp) h.vp_fits)))
    h.places h.vp h.ar h.operand)
