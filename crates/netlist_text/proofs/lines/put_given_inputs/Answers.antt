use Rattle.netlist_text.specs.Text.{given_text}
use Rattle.netlist_text.proofs.Texts.{appended}
use Rattle.netlist_text.proofs.lines.put_given_inputs.Goals as goal

pub loop-k-preserved : goal.loop-k-preserved
loop-k-preserved c =
    appended given_text c.args.ports.now c.loop-k.k c.index-ports-k.result c.args.out.now.items c.loop-k.out.items
    c.put_given_input.new.out.items c.loop-k-test.true c.index-ports-k.is c.loop-k.invariant c.in_ok-put_given_input.ensures
