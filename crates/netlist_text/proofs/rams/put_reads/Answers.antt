use Rattle.netlist_text.specs.Text.{read_text}
use Rattle.netlist_text.proofs.Texts.{appended}
use Rattle.netlist_text.proofs.rams.put_reads.Goals as goal

pub loop-k-preserved : goal.loop-k-preserved
loop-k-preserved c =
    appended read_text c.args.memories.now c.loop-k.k c.index-memories-k.result c.args.out.now.items c.loop-k.out.items
    c.put_read.new.out.items c.loop-k-test.true c.index-memories-k.is c.loop-k.invariant c.in_ok-put_read.ensures
