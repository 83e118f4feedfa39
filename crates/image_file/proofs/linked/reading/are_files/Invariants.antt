use Rattle.image_file.proofs.Sequences.{AreTaken}
use Rattle.image_file.proofs.linked.reading.are_files.Given as goal

abbrev pub invariant-loop : goal.invariant-loop
invariant-loop l = AreTaken l.counter l.bytes l.rest
