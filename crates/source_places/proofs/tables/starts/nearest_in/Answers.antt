use Rattle.std.proofs.Common.{◌++◌}
use Rattle.source_places.proofs.TablesLemmas.NearLemmas.{first_start, one_more}
use Rattle.source_places.proofs.tables.starts.nearest_in.Goals as goal

pub loop-left-preserved : goal.loop-left-preserved
loop-left-preserved c es h =
    let so_far = c.loop-left.invariant es h in
    let left = c.loop-left.left.now in
    let first = first_start left c.number.result c.number-in-len4-up.result c.in-len4-up.len_at_least c.number.ensures c.number-in-len4-up.ensures in
    one_more c.args.place c.args.entries.now left es so_far.0 _ _ c.nearer-found.result so_far.1 first (c.nearer-found.ensures (es ++ so_far.0) so_far.2)
