use Rattle.circuit_build.proofs.Steps.{next, so}
use Rattle.machine_circuit.proofs.circuit.set_places.Goals as goal
use Rattle.std.proofs.Common.{◌∙◌, ◌^◌, ap, arith, subst}
use Rattle.circuit_core.specs.Decoding.{Decodes}
use Rattle.machine_circuit.proofs.Finding.{vp_within}

pub returns : goal.returns
returns c =
    so (next (next (next (next (next (next c.set_rom-word.ensures.gives c.new.ensures.gives) c.next_sp.ensures.gives) c.next_vp.ensures.gives) c.next_ar.ensures.gives) c.next_operand.ensures.gives) c.next_jpc.ensures.gives)
    (λ ws f n core s b. record {
      places = ap (λ w. 2 ^ w) c.next_vp.ensures.width ∙ s.registers.machine.places;
      word = subst (λ w. Decodes ws c.new.result w) (f.0.0.0.0.0.0 n core s b) f.0.0.0.0.0.1;
      sp = f.0.0.0.0.1 n core s;
      vp = f.0.0.0.1 n core s;
      vp_fits = vp_within n core (omega (arith, s.registers.machine.vp_fits)) s.registers.machine.vp_fits;
      ar = f.0.0.1 n core s;
      operand = f.0.1 n core s b;
      jpc = f.1 n core s;
    })
