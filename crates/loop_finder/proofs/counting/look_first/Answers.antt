use Rattle.loop_finder.proofs.Known.{first_counts}
use Rattle.loop_finder.proofs.counting.look_first.Goals as goal

pub returns : goal.returns
returns c marks before =
    let l = c.in_ok-look_at.ensures marks before in
    (first_counts c.args.body.now c.args.marks.now.header c.in-Some.node c.look_at.new.known.least (l.least tt), l.rest tt)
