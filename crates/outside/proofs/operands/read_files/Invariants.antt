use Rattle.std.proofs.Common.{◌≡◌, ◌+◌, length}
use Rattle.std.specs.Prelude.{sum_by}
use Rattle.outside.specs.Files.{files_told, OnlyWords, most_bytes, AreFiles, contents}
use Rattle.outside.proofs.operands.read_files.Given as goal

abbrev pub invariant-loop-word : goal.invariant-loop-word
invariant-loop-word g l = record {
  files : AreFiles (g.F.Files.told l.fn.files) l.first l.word (contents l.read.items);
  left : sum_by length (contents l.read.items) + l.left ≡ most_bytes;
  rest : OnlyWords (files_told (g.F.Files.words l.fn.files) (g.F.Files.told l.fn.files) (g.F.Files.faults l.fn.files))
      (files_told (g.F.Files.words l.files) (g.F.Files.told l.files) (g.F.Files.faults l.files)) l.first l.word;
}
