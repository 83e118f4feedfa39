use Rattle.std.proofs.Common.{arith}
use Rattle.image_file.proofs.Sequences.{file_fits}
use Rattle.image_file.proofs.linked.writing.put_files.Goals as goal

pub overflow_cast-len : goal.overflow_cast-len
overflow_cast-len c =
    let fits = file_fits c.args.files.now c.loop-file.file-index c.file-item.result c.requires c.loop-file-test.true c.file-item.is in
    let len = c.len.ensures in
    record { fits = omega arith }
