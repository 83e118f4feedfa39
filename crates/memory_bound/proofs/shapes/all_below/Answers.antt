use Rattle.std.proofs.Common.{◌∙◌}
use Rattle.memory_bound.proofs.Shaping.{range_more}
use Rattle.memory_bound.proofs.shapes.all_below.Goals as goal

pub loop-u-preserved : goal.loop-u-preserved
loop-u-preserved c = c.in_ok-push.ensures.items ∙ range_more c.loop-u.u c.loop-u.all.items c.loop-u.invariant
