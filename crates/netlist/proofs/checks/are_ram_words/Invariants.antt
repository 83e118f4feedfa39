use Rattle.std.proofs.Common.{map, take}
use Rattle.netlist.specs.declared.parts.BlockRam.{BlockRam}
use Rattle.netlist.specs.WellFormed.{Fit}
use Rattle.netlist.proofs.checks.are_ram_words.Given as goal

abbrev pub invariant-loop-k : goal.invariant-loop-k
invariant-loop-k l = Fit (map (λ (m : BlockRam). m.write.word.width) (take l.k l.memories)) (take l.k l.words)
