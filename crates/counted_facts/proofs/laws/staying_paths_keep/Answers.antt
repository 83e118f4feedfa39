use Rattle.counted_facts.proofs.Staying.{staying_paths_keep}
use Rattle.counted_facts.proofs.laws.staying_paths_keep.Goals as goal

pub returns : goal.returns
returns c =
    staying_paths_keep c.lines_follow_one_another.ensures.one c.lines_follow_one_another.ensures.apart c.one_stands_before.ensures.line c.headers_dominate_members.ensures c.loops_are_entered_at_headers.ensures.entered
    c.loops_are_entered_at_headers.ensures.back c.entry_dominates_all.ensures
