use Rattle.netlist_text.specs.Text.{row_text}
use Rattle.netlist_text.proofs.Texts.{appended_or}
use Rattle.netlist_text.proofs.wires.put_rows.Goals as goal

pub loop-row-preserved : goal.loop-row-preserved
loop-row-preserved c =
    appended_or (row_text c.args.k c.args.place_width c.args.width) c.args.rows.now c.loop-row.row 0 c.args.out.now.items c.loop-row.out.items
    c.put_row.new.out.items c.loop-row-test.true c.loop-row.invariant c.in_ok-put_row.ensures
