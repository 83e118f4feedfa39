use Rattle.work_gen.proofs.BoundLaws.{bounds_are_read, only_these, each_is_bounded, texts_are_short}
use Rattle.work_gen.proofs.laws.bounds_are_read.Goals as goal

pub returns : goal.returns
returns c = record { read = bounds_are_read; only = only_these c.gives_one.ensures c.read_is_not_refused.ensures; each = each_is_bounded; short = texts_are_short }
