use Rattle.std.proofs.Common.{subst, ⊎_elim}
use Rattle.endings.specs.declared.outcome.Outcome.{Outcome}
use Rattle.endings.specs.Leaving.{LeavesAll}
use Rattle.jop_cli.proofs.Leaving.{leaves_said, leaves_unsaid}
use Rattle.jop_cli.proofs.top.jop.Goals as goal

pub returns-clause-leaves : goal.returns-clause-leaves
returns-clause-leaves g c all =
    let ending = c.execute-ending.result in
    let before = g.S.Source.faults c.args.input.now in
    let now = g.S.Source.faults c.execute-ending.new.input in
    let risen = c.execute-ending.ensures.rose in
    let L : Outcome → Type 0 = λ outcome. LeavesAll outcome before now in
    c.execute-ending.ensures.leaves (⊎_elim (λ said. leaves_said ending before now risen (subst L said.1 all)) (λ less. leaves_unsaid ending before now risen (subst L less.1 all)) c.conclude.ensures.said)
