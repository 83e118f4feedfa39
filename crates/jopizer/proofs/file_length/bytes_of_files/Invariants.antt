use Rattle.std.proofs.Common.{◌≡◌, take, length}
use Rattle.std.specs.List.{flat_map}
use Rattle.image_file.specs.Linked.{file_bytes, contents}
use Rattle.jopizer.proofs.file_length.bytes_of_files.Given as goal

abbrev pub invariant-loop-file : goal.invariant-loop-file
invariant-loop-file l = l.count ≡ length (flat_map file_bytes (contents (take l.file-index l.files)))
