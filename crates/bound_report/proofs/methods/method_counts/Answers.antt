use Rattle.std.proofs.Common.{◌<◌, length, sym, subst, arith}
use Rattle.std.specs.Prelude.{◌↔◌, IsTrue}
use Rattle.std.proofs.lemmas.Result.{err_from_is_err_and}
use Rattle.bound_rules.specs.Fitting.{RegionFits}
use Rattle.bound_finder.specs.declared.known.Known.{Known}
use Rattle.bound_finder.specs.Known.{bounds_in}
use Rattle.bound_finder.proofs.Told.{known_read}
use Rattle.bound_report.proofs.Unready.{only_memory}
use Rattle.bound_report.proofs.methods.method_counts.Goals as goal

pub prepare-requires-clause-fits : goal.prepare-requires-clause-fits
prepare-requires-clause-fits c = λ P of.
    let table = c.args.table.now in
    let m = c.args.m in
    let inside = c.requires.method in
    let long = c.requires.long in
    let below : m < length table = omega arith in
    let read = known_read table m _ below in
    let F : Known → Type 0 = λ k. IsTrue k.fits ↔ RegionFits P c.args.task.now.timing m in
    subst F (sym read) (c.requires.settled P of).known.told.fits

pub counts_of-requires-clause-prepared : goal.counts_of-requires-clause-prepared
counts_of-requires-clause-prepared c = λ P of. c.in_ok-p.ensures.prepared P of (c.requires.settled P of).told

pub returns-in_err-p-clause-cause : goal.returns-in_err-p-clause-cause
returns-in_err-p-clause-cause c =
    let e = err_from_is_err_and c.from_residual.result c.from_residual.ensures.1 in
    rw (e.1, e.2) (λ P of.
    let set = c.args.task.now in
    let settled = c.requires.settled P of in
    only_memory c.ready_has_shape.ensures P set.timing (bounds_in set) c.args.table.now c.args.m settled c.in_err-p.field-0.0 (c.in_err-p.ensures.cause P of settled.told))
