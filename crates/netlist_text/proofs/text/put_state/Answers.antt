use Rattle.std.proofs.Common.{refl}
use Rattle.std.proofs.lemmas.List.{append_assoc}
use Rattle.netlist_text.proofs.text.put_state.Goals as goal

pub returns : goal.returns
returns c =
    rw (c.in_ok-put_rams.ensures, c.in_ok-put_registers.ensures, c.in_ok-put_given_inputs.ensures, c.as_slice.ensures, c.as_slice-2.ensures, c.as_slice-3.ensures)
    (simp (append_assoc) refl)
