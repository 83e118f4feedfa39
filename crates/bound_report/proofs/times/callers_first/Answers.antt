use Rattle.std.proofs.Common.{refl}
use Rattle.bound_report.specs.Adding.{has_number}
use Rattle.bound_report.proofs.Callers.{callers_more}
use Rattle.bound_report.proofs.times.callers_first.Goals as goal

pub loop-i-preserved : goal.loop-i-preserved
loop-i-preserved c =
    callers_more (has_number c.args.table.now) c.args.order.now c.loop-i.i _ c.has_number.result c.loop-i.methods.items c.keep.new.methods.items c.loop-i-test.true refl c.has_number.ensures c.loop-i.invariant c.in_ok-keep.ensures
