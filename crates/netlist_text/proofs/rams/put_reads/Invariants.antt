use Rattle.std.proofs.Common.{◌≡◌, ◌++◌, take}
use Rattle.netlist_text.specs.Text.{each_from, read_text}
use Rattle.netlist_text.proofs.rams.put_reads.Given as goal

abbrev pub invariant-loop-k : goal.invariant-loop-k
invariant-loop-k l = l.out.items ≡ l.initial.out.items ++ each_from read_text 0 (take l.k l.memories)
