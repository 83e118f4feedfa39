use Rattle.std.proofs.Common.{get_or, ap, ◌∙◌}
use Rattle.bound_finder.specs.Known.{known_at}
use Rattle.bound_finder.proofs.Told.{known_read}
use Rattle.bound_report.specs.Callees.{number_by}
use Rattle.bound_report.proofs.Choosing.{best_more}
use Rattle.bound_report.proofs.callees.greatest_target.Goals as goal

pub loop-x-preserved : goal.loop-x-preserved
loop-x-preserved c =
    let table = c.args.table.now in
    let targets = c.args.targets.now in
    let i = c.loop-x.x-index in
    let lt = c.loop-x-test.true in
    let known = known_read table (get_or targets i 0) _ (c.requires i 0 lt) in
    best_more (λ x. number_by c.args.pays (known_at table x)) targets i c.loop-x.best c.number_by.result c.better-best.result lt (c.number_by.ensures ∙ ap (number_by c.args.pays) known) c.better-best.ensures c.loop-x.invariant
