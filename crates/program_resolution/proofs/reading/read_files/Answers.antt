use Rattle.std.proofs.Common.{◌+◌, ℕ, map, ap}
use Rattle.std.proofs.lemmas.Result.{err_from_is_err_and}
use Rattle.program_resolution.proofs.CodeLemmas.{more_bytes}
use Rattle.program_resolution.proofs.ReadingLemmas.{read_more, first_unread, file_there}
use Rattle.program_resolution.proofs.reading.read_files.Goals as goal

pub returns-in_err-class-clause-refused : goal.returns-in_err-class-clause-refused
returns-in_err-class-clause-refused c =
    let p = err_from_is_err_and c.from_residual.result c.from_residual.ensures.1 in
    rw (p.1, p.2)
    (first_unread (map (λ f. f.items) c.args.files.now) c.loop-file.classes.items c.loop-file.file-index c.loop-file.number c.deref.result.now c.in_err-class.field-0.0 c.loop-file.invariant.1 c.loop-file.invariant.0
    (file_there (λ f. f.items) c.args.files.now c.loop-file.file-index c.file-item.result c.deref.result.now c.loop-file-test.true c.file-item.is c.deref.ensures.value) c.in_err-class.ensures.refused)

pub loop-file-preserved : goal.loop-file-preserved
loop-file-preserved c = (
  read_more (map (λ f. f.items) c.args.files.now) c.loop-file.classes.items c.put_class.new.classes.items c.loop-file.file-index c.deref.result.now c.in_ok-class.class
      (file_there (λ f. f.items) c.args.files.now c.loop-file.file-index c.file-item.result c.deref.result.now c.loop-file-test.true c.file-item.is c.deref.ensures.value) c.loop-file.invariant.0 c.in_ok-class.ensures.read c.in_ok-put_class.ensures,
  ap (λ (n : ℕ). n + 1) c.loop-file.invariant.1,
  more_bytes c.loop-file.classes.items c.put_class.new.classes.items c.in_ok-class.class c.in_ok-put_class.ensures c.loop-file.invariant.2 c.in_ok-class.ensures.bytes,
)
