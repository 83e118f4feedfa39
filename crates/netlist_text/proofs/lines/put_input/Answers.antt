use Rattle.std.proofs.Common.{refl}
use Rattle.std.proofs.lemmas.List.{append_assoc}
use Rattle.netlist_text.proofs.lines.put_input.Goals as goal

pub returns : goal.returns
returns c =
    rw (c.in_ok-put-2.ensures, c.in_ok-put_range.ensures, c.in_ok-put.ensures, c.as_slice.ensures)
    (simp (append_assoc) refl)
