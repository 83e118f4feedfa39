use Rattle.std.proofs.Common.{refl}
use Rattle.std.proofs.lemmas.List.{append_assoc}
use Rattle.netlist_text.proofs.text.put_head.Goals as goal

pub returns : goal.returns
returns c =
    rw (c.in_ok-put-4.ensures, c.in_ok-put_outputs.ensures, c.in_ok-put_inputs.ensures, c.in_ok-put-3.ensures, c.in_ok-put-2.ensures, c.in_ok-put.ensures, c.as_slice.ensures, c.as_slice-2.ensures, c.as_slice-3.ensures)
    (simp (append_assoc) refl)
