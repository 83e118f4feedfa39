use Rattle.std.proofs.Common.{length}
use Rattle.image_file.specs.Linked.{IsFile, file_bytes, contents}
use Rattle.image_file.proofs.Sequences.{IsTaken}
use Rattle.image_file.proofs.linked.reading.files_of.Given as goal

abbrev pub invariant-loop-file : goal.invariant-loop-file
invariant-loop-file l = IsTaken file_bytes IsFile (contents l.files.items) l.bytes l.rest

abbrev pub decreases-loop-file : goal.decreases-loop-file
decreases-loop-file l = length l.rest
