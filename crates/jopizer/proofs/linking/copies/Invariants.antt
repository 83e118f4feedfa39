use Rattle.std.proofs.Common.{◌≡◌, take}
use Rattle.image_file.specs.Linked.{contents}
use Rattle.jopizer.proofs.linking.copies.Given as goal

abbrev pub invariant-loop-file : goal.invariant-loop-file
invariant-loop-file l = contents l.copies.items ≡ contents (take l.file-index l.files)
