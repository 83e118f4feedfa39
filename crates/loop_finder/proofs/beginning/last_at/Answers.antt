use Rattle.std.proofs.lemmas.Result.{IfOk-weaker}
use Rattle.loop_acts.specs.Rules.{rules_by}
use Rattle.loop_finder.proofs.Skipping.{backs_within, none_stops}
use Rattle.loop_finder.proofs.Stopping.{stops_at_writes}
use Rattle.loop_finder.proofs.beginning.last_at.Goals as goal

pub last_writes-requires-clause-backs : goal.last_writes-requires-clause-backs
last_writes-requires-clause-backs c = backs_within c.args.acts.now c.args.routes.now c.args.backs.now c.requires.backs

pub returns : goal.returns
returns c =
    let acts = c.args.acts.now in
    let local = c.args.local in
    let past = c.requires.backs in
    IfOk-weaker c.last_writes.result _ _
    (λ found last P given m u is are at come. last P m local u past.idle is past.are (none_stops acts c.args.routes.now c.args.backs.now past local)
    (stops_at_writes P (rules_by P given) m acts c.lines_follow_one_another.ensures.one are local) at come)
    c.last_writes.ensures
