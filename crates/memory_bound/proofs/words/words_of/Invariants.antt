use Rattle.std.proofs.Common.{take}
use Rattle.memory_bound.specs.Setting.{ForEach, bounds_in, lengths_in}
use Rattle.memory_bound.specs.Found.{BeginInstructions, KnowHeaps}
use Rattle.memory_bound.specs.Words.{AreNodeWords}
use Rattle.std.proofs.Common.{◌≡◌, length}
use Rattle.memory_bound.proofs.words.words_of.Given as goal

abbrev pub invariant-loop-node : goal.invariant-loop-node
invariant-loop-node l = (length l.words.items ≡ l.node-index) × ForEach l.task (λ P. BeginInstructions P l.m l.nodes
    → KnowHeaps P (bounds_in l.task) (lengths_in l.task) l.table l.m
    → AreNodeWords P (bounds_in l.task) (lengths_in l.task) l.m (take l.node-index l.nodes) l.words.items)
