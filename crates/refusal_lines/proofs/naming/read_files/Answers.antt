use Rattle.std.proofs.Common.{map}
use Rattle.program_resolution.proofs.ReadingLemmas.{read_more, file_there}
use Rattle.refusal_lines.proofs.naming.read_files.Goals as goal

pub loop-file-preserved : goal.loop-file-preserved
loop-file-preserved c =
    read_more (map (λ f. f.items) c.args.files.now) c.loop-file.classes.items c.put_class.new.classes.items c.loop-file.file-index c.deref.result.now c.in_ok-class.class
    (file_there (λ f. f.items) c.args.files.now c.loop-file.file-index c.file-item.result c.deref.result.now c.loop-file-test.true c.file-item.is c.deref.ensures.value) c.loop-file.invariant c.in_ok-class.ensures c.in_ok-put_class.ensures
