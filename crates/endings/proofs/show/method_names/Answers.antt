use Rattle.std.proofs.Common.{arith, sym, subst, ◌+◌}
use Rattle.endings.proofs.Named.{AreFirst, one_more}
use Rattle.endings.proofs.show.method_names.Goals as goal

pub loop-number-preserved : goal.loop-number-preserved
loop-number-preserved c =
    subst (AreFirst c.args.program.now (c.loop-number.number + 1)) (sym c.in_ok-push.ensures.items)
    (one_more c.args.program.now c.loop-number.number c.loop-number.names.items c.in_ok-written_name.field-0 (omega (arith, c.loop-number-test.true, c.method_count-number-end.ensures)) c.loop-number.invariant c.in_ok-written_name.ensures)
