use Rattle.std.proofs.Common.{◌≡◌, ◌++◌, take}
use Rattle.netlist_text.specs.Text.{each_from, first_text}
use Rattle.netlist_text.proofs.rams.put_first_words.Given as goal

abbrev pub invariant-loop-place : goal.invariant-loop-place
invariant-loop-place l = l.out.items ≡ l.initial.out.items ++ each_from (first_text l.k l.width) 0 (take l.place l.first)
