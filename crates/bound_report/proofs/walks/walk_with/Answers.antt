use Rattle.std.proofs.Common.{length, ap, ◌∙◌, arith}
use Rattle.bound_report.proofs.OfWalks.{charged_long}
use Rattle.bound_report.proofs.walks.walk_with.Goals as goal

pub walk_counts-requires-clause-loads : goal.walk_counts-requires-clause-loads
walk_counts-requires-clause-loads c =
    let p = c.args.p.now in
    let flags = c.requires.shape.flags in
    let loads = c.requires.shape.loads in
    ap length c.requires.fees ∙ (charged_long p.charges.loads.items p.charges.flags.items (omega arith) ∙ loads)
