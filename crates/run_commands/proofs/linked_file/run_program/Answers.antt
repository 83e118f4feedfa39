use Rattle.std.proofs.Common.{List, ◌∙◌, subst}
use Rattle.class_pool.specs.declared.class.ClassFile.{ClassFile}
use Rattle.run_devices.specs.Lent.{lent}
use Rattle.run_commands.specs.LinkedFile.{SaysEnd}
use Rattle.run_commands.proofs.Said.{ends_as, said_done}
use Rattle.run_commands.proofs.linked_file.run_program.Goals as goal

pub returns-in-Ok-run_held-clause-ends : goal.returns-in-Ok-run_held-clause-ends
returns-in-Ok-run_held-clause-ends g c =
    let ran = c.in-Ok-run_held.ran in
    let S : List ClassFile → Type 0 = λ cs. SaysEnd cs ran.end ran.counts c.said.result in
    ends_as c.args.settings.now c.args.show c.args.linked.now
    (lent (g.S.Source.left c.args.input.now) (g.S.Source.faults c.args.input.now) (g.O.Sink.held c.args.out.now) (g.O.Sink.faults c.args.out.now) (g.V.Watch.held c.args.watch.now))
    (lent (g.S.Source.left c.run_held.new.input) (g.S.Source.faults c.run_held.new.input) (g.O.Sink.held c.run_held.new.out) (g.O.Sink.faults c.run_held.new.out) (g.V.Watch.held c.run_held.new.watch))
    ran c.said.result c.in-Ok-run_held.ensures.ran (subst S (c.program-program.ensures.program ∙ c.program.ensures.program) c.said.ensures)

pub returns-in-Ok-run_held-clause-leaves : goal.returns-in-Ok-run_held-clause-leaves
returns-in-Ok-run_held-clause-leaves g c = λ leaves. absurd (said_done c.program-program.result.now c.in-Ok-run_held.ran.end c.in-Ok-run_held.ran.counts c.said.result c.said.ensures leaves)
