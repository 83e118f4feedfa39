use Rattle.netlist_text.specs.Text.{wire_text}
use Rattle.netlist_text.proofs.Texts.{appended}
use Rattle.netlist_text.proofs.wires.put_wires.Goals as goal

pub loop-k-preserved : goal.loop-k-preserved
loop-k-preserved c =
    appended wire_text c.args.wires.now c.loop-k.k c.index-wires-k.result c.args.out.now.items c.loop-k.out.items
    c.put_wire.new.out.items c.loop-k-test.true c.index-wires-k.is c.loop-k.invariant c.in_ok-put_wire.ensures
