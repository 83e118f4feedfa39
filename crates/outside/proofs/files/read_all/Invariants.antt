use Rattle.std.proofs.Common.{◌≤◌, length, ◌-◌}
use Rattle.outside.specs.Outside.{OnlyWord}
use Rattle.outside.proofs.Told.{IsFront}
use Rattle.outside.proofs.files.read_all.Given as goal

abbrev pub invariant-loop-piece : goal.invariant-loop-piece
invariant-loop-piece g l = record {
  front : IsFront (g.F.Files.told l.fn.files l.word) l.bytes.items;
  within : length l.bytes.items ≤ l.length;
  rest : OnlyWord (g.F.Files.words l.fn.files) (g.F.Files.words l.files) (g.F.Files.told l.fn.files) (g.F.Files.told l.files) (g.F.Files.faults l.fn.files) (g.F.Files.faults l.files) l.word;
  later : g.F.Files.faults l.fn.files l.word ≤ g.F.Files.faults l.files l.word;
}

abbrev pub decreases-loop-piece : goal.decreases-loop-piece
decreases-loop-piece g l = l.length - length l.bytes.items
