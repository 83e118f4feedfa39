use Rattle.netlist.specs.declared.net.Driver.TheVariants.{Constant}
use Rattle.netlist_text.specs.Text.{register_text}
use Rattle.netlist_text.proofs.Texts.{appended_or}
use Rattle.netlist_text.proofs.lines.put_registers.Goals as goal

pub loop-k-preserved : goal.loop-k-preserved
loop-k-preserved c =
    appended_or register_text c.args.registers.now c.loop-k.k (record { first = 0; next = record { width = 0; driver = Constant 0 } })
    c.args.out.now.items c.loop-k.out.items c.put_register.new.out.items c.loop-k-test.true c.loop-k.invariant c.in_ok-put_register.ensures
