use Rattle.netlist_text.specs.Text.{write_text}
use Rattle.netlist_text.proofs.Texts.{appended}
use Rattle.netlist_text.proofs.rams.put_writes.Goals as goal

pub loop-k-preserved : goal.loop-k-preserved
loop-k-preserved c =
    appended write_text c.args.memories.now c.loop-k.k c.index-memories-k.result c.args.out.now.items c.loop-k.out.items
    c.put_write.new.out.items c.loop-k-test.true c.index-memories-k.is c.loop-k.invariant c.in_ok-put_write.ensures
