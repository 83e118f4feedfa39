use Rattle.std.proofs.Common.{refl}
use Rattle.std.proofs.lemmas.List.{append_assoc}
use Rattle.netlist_text.proofs.rams.put_loop.Goals as goal

pub returns : goal.returns
returns c =
    rw (c.in_ok-put_number-4.ensures, c.in_ok-put_number-3.ensures, c.in_ok-put_number-2.ensures, c.in_ok-put_number.ensures, c.as_slice.ensures)
    (simp (append_assoc) refl)
