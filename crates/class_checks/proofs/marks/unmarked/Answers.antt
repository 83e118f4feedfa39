use Rattle.std.proofs.Common.{get_or}
use Rattle.lists.proofs.Among.{among_at}
use Rattle.class_checks.proofs.marks.unmarked.Goals as goal

pub bounds-marks-class : goal.bounds-marks-class
bounds-marks-class c = c.requires (get_or c.args.lower.now c.loop-class.class-index 0) (among_at c.args.lower.now c.loop-class.class-index c.loop-class-test.true)
