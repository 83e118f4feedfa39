use Rattle.class_pool.proofs.CheckLemmas.{is_decided}
use Rattle.class_pool.proofs.checking.is_pool.Goals as goal

pub returns : goal.returns
returns c = is_decided c.args.entries.now c.all_point_rightly.result c.if-entries-gt-MOST_ENTRIES.false (c.are_in_range.ensures.0 c.if-not-are_in_range.false) (c.have_seconds.ensures.0 c.if-not-have_seconds.false) c.all_point_rightly.ensures
