use Rattle.std.proofs.Common.{◌≡◌, ◌++◌, take}
use Rattle.netlist_text.specs.Text.{each_from, row_text}
use Rattle.netlist_text.proofs.wires.put_rows.Given as goal

abbrev pub invariant-loop-row : goal.invariant-loop-row
invariant-loop-row l = l.out.items ≡ l.initial.out.items ++ each_from (row_text l.k l.place_width l.width) 0 (take l.row l.rows)
