use Rattle.std.proofs.Common.{refl}
use Rattle.std.proofs.lemmas.List.{append_assoc}
use Rattle.netlist_text.proofs.rams.put_clash.Goals as goal

pub returns : goal.returns
returns c =
    rw (c.in_ok-put.ensures, c.in_ok-put_behind-2.ensures, c.in_ok-put_behind.ensures, c.in_ok-put_net.ensures)
    (simp (append_assoc) refl)
