use Rattle.std.proofs.Common.{refl}
use Rattle.std.proofs.lemmas.List.{append_assoc}
use Rattle.netlist_text.proofs.rams.put_write.Goals as goal

pub returns : goal.returns
returns c =
    rw (c.in_ok-put.ensures, c.in_ok-put_behind-3.ensures, c.in_ok-put_behind-2.ensures, c.in_ok-put_number.ensures, c.in_ok-put_behind.ensures)
    (simp (append_assoc) refl)
