use Rattle.std.proofs.Common.{sym, ◌∙◌}
use Rattle.loop_finder.proofs.counting.may_be.Goals as goal

pub returns-in-Some : goal.returns-in-Some
returns-in-Some c off g h rest =
    let told = rw c.in-Some.is at rest in
    told c.args.node (sym c.is_flagged.ensures.flag ∙ off)
