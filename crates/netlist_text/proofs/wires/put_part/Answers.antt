use Rattle.std.proofs.Common.{refl}
use Rattle.std.proofs.lemmas.List.{append_assoc}
use Rattle.netlist_text.proofs.wires.put_part.Goals as goal

pub returns : goal.returns
returns c =
    rw (c.in_ok-put.ensures, c.in_ok-put_number-2.ensures, c.in_ok-put_number.ensures, c.in_ok-put_net.ensures, c.high_bit.ensures)
    (simp (append_assoc) refl)
