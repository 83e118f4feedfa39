use Rattle.netlist_text.specs.Text.{output_text}
use Rattle.netlist_text.proofs.Texts.{appended_flat}
use Rattle.netlist_text.proofs.lines.put_outputs.Goals as goal

pub loop-port-preserved : goal.loop-port-preserved
loop-port-preserved c =
    appended_flat output_text c.args.ports.now c.loop-port.port-index c.port-item.result c.args.out.now.items c.loop-port.out.items
    c.put_output.new.out.items c.loop-port-test.true c.port-item.is c.loop-port.invariant c.in_ok-put_output.ensures
