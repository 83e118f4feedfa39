use Rattle.std.proofs.Common.{refl}
use Rattle.std.proofs.lemmas.List.{append_assoc}
use Rattle.netlist_text.proofs.wires.put_row.Goals as goal

pub returns : goal.returns
returns c =
    rw (c.in_ok-put_given.ensures, c.in_ok-put_number.ensures, c.in_ok-put_word.ensures, c.in_ok-put.ensures)
    (simp (append_assoc) refl)
