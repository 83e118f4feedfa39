use Rattle.std.proofs.Common.{sym, subst}
use Rattle.command_line.specs.Command.{texts}
use Rattle.jop_cli.specs.declared.task.Task.{Task}
use Rattle.endings.specs.World.{world}
use Rattle.jop_cli.specs.Answer.{DoesTask, ShowsOutput, TakesFor}
use Rattle.jop_cli.proofs.Executing.{traces_else, assembles_risen, links_risen, asks_risen, asks_with_risen}
use Rattle.jop_cli.proofs.Planned.{plans_risen}
use Rattle.run_commands.proofs.Worked.{works_risen}
use Rattle.jop_cli.proofs.top.perform.Goals as goal

pub returns-in-Assemble-clause-does : goal.returns-in-Assemble-clause-does
returns-in-Assemble-clause-does g c =
    let D : Task → Type 0 = λ task. DoesTask (texts c.args.words.now) task
    (world (g.F.Files.words c.args.files.now) (g.F.Files.told c.args.files.now) (g.F.Files.faults c.args.files.now) (g.S.Source.left c.args.input.now) (g.S.Source.faults c.args.input.now) (g.O.Sink.held c.args.out.now) (g.O.Sink.faults c.args.out.now) (g.V.Watch.held c.args.watch.now))
    (world (g.F.Files.words c.assemble_file.new.files) (g.F.Files.told c.assemble_file.new.files) (g.F.Files.faults c.assemble_file.new.files) (g.S.Source.left c.args.input.now) (g.S.Source.faults c.args.input.now) (g.O.Sink.held c.assemble_file.new.out) (g.O.Sink.faults c.assemble_file.new.out) (g.V.Watch.held c.args.watch.now))
    c.assemble_file.result in
    subst D (sym c.in-Assemble.is) (c.assemble_file.ensures.assembles (g.S.Source.left c.args.input.now) (g.S.Source.faults c.args.input.now) (g.V.Watch.held c.args.watch.now))

pub returns-in-Link-clause-does : goal.returns-in-Link-clause-does
returns-in-Link-clause-does g c =
    let D : Task → Type 0 = λ task. DoesTask (texts c.args.words.now) task
    (world (g.F.Files.words c.args.files.now) (g.F.Files.told c.args.files.now) (g.F.Files.faults c.args.files.now) (g.S.Source.left c.args.input.now) (g.S.Source.faults c.args.input.now) (g.O.Sink.held c.args.out.now) (g.O.Sink.faults c.args.out.now) (g.V.Watch.held c.args.watch.now))
    (world (g.F.Files.words c.link_files.new.files) (g.F.Files.told c.link_files.new.files) (g.F.Files.faults c.link_files.new.files) (g.S.Source.left c.args.input.now) (g.S.Source.faults c.args.input.now) (g.O.Sink.held c.link_files.new.out) (g.O.Sink.faults c.link_files.new.out) (g.V.Watch.held c.args.watch.now))
    c.link_files.result in
    subst D (sym c.in-Link.is) (c.link_files.ensures.links (g.S.Source.left c.args.input.now) (g.S.Source.faults c.args.input.now) (g.V.Watch.held c.args.watch.now))

pub returns-in-Ask-clause-does : goal.returns-in-Ask-clause-does
returns-in-Ask-clause-does g c =
    let D : Task → Type 0 = λ task. DoesTask (texts c.args.words.now) task
    (world (g.F.Files.words c.args.files.now) (g.F.Files.told c.args.files.now) (g.F.Files.faults c.args.files.now) (g.S.Source.left c.args.input.now) (g.S.Source.faults c.args.input.now) (g.O.Sink.held c.args.out.now) (g.O.Sink.faults c.args.out.now) (g.V.Watch.held c.args.watch.now))
    (world (g.F.Files.words c.ask_files.new.files) (g.F.Files.told c.ask_files.new.files) (g.F.Files.faults c.ask_files.new.files) (g.S.Source.left c.args.input.now) (g.S.Source.faults c.args.input.now) (g.O.Sink.held c.ask_files.new.out) (g.O.Sink.faults c.ask_files.new.out) (g.V.Watch.held c.args.watch.now))
    c.ask_files.result in
    subst D (sym c.in-Ask.is) (c.ask_files.ensures.asks (g.S.Source.left c.args.input.now) (g.S.Source.faults c.args.input.now) (g.V.Watch.held c.args.watch.now))

pub returns-in-AskWith-clause-does : goal.returns-in-AskWith-clause-does
returns-in-AskWith-clause-does g c =
    let D : Task → Type 0 = λ task. DoesTask (texts c.args.words.now) task
    (world (g.F.Files.words c.args.files.now) (g.F.Files.told c.args.files.now) (g.F.Files.faults c.args.files.now) (g.S.Source.left c.args.input.now) (g.S.Source.faults c.args.input.now) (g.O.Sink.held c.args.out.now) (g.O.Sink.faults c.args.out.now) (g.V.Watch.held c.args.watch.now))
    (world (g.F.Files.words c.ask_files_with.new.files) (g.F.Files.told c.ask_files_with.new.files) (g.F.Files.faults c.ask_files_with.new.files) (g.S.Source.left c.args.input.now) (g.S.Source.faults c.args.input.now) (g.O.Sink.held c.ask_files_with.new.out) (g.O.Sink.faults c.ask_files_with.new.out) (g.V.Watch.held c.args.watch.now))
    c.ask_files_with.result in
    subst D (sym c.in-AskWith.is) (c.ask_files_with.ensures.asks (g.S.Source.left c.args.input.now) (g.S.Source.faults c.args.input.now) (g.V.Watch.held c.args.watch.now))

pub returns-in-Work-clause-does : goal.returns-in-Work-clause-does
returns-in-Work-clause-does g c =
    let D : Task → Type 0 = λ task. DoesTask (texts c.args.words.now) task
    (world (g.F.Files.words c.args.files.now) (g.F.Files.told c.args.files.now) (g.F.Files.faults c.args.files.now) (g.S.Source.left c.args.input.now) (g.S.Source.faults c.args.input.now) (g.O.Sink.held c.args.out.now) (g.O.Sink.faults c.args.out.now) (g.V.Watch.held c.args.watch.now))
    (world (g.F.Files.words c.args.files.now) (g.F.Files.told c.args.files.now) (g.F.Files.faults c.args.files.now) (g.S.Source.left c.args.input.now) (g.S.Source.faults c.args.input.now) (g.O.Sink.held c.work.new.out) (g.O.Sink.faults c.work.new.out) (g.V.Watch.held c.args.watch.now))
    c.work.result in
    subst D (sym c.in-Work.is) (c.work.ensures.works (g.F.Files.words c.args.files.now) (g.F.Files.told c.args.files.now) (g.F.Files.faults c.args.files.now) (g.S.Source.left c.args.input.now) (g.S.Source.faults c.args.input.now) (g.V.Watch.held c.args.watch.now))

pub returns-in-Profile-clause-does : goal.returns-in-Profile-clause-does
returns-in-Profile-clause-does g c =
    let D : Task → Type 0 = λ task. DoesTask (texts c.args.words.now) task
    (world (g.F.Files.words c.args.files.now) (g.F.Files.told c.args.files.now) (g.F.Files.faults c.args.files.now) (g.S.Source.left c.args.input.now) (g.S.Source.faults c.args.input.now) (g.O.Sink.held c.args.out.now) (g.O.Sink.faults c.args.out.now) (g.V.Watch.held c.args.watch.now))
    (world (g.F.Files.words c.profile_files.new.files) (g.F.Files.told c.profile_files.new.files) (g.F.Files.faults c.profile_files.new.files) (g.S.Source.left c.profile_files.new.input) (g.S.Source.faults c.profile_files.new.input) (g.O.Sink.held c.profile_files.new.out) (g.O.Sink.faults c.profile_files.new.out) (g.V.Watch.held c.args.watch.now))
    c.profile_files.result in
    subst D (sym c.in-Profile.is) (c.profile_files.ensures.profiles (g.V.Watch.held c.args.watch.now))

pub returns-in-Plan-clause-does : goal.returns-in-Plan-clause-does
returns-in-Plan-clause-does g c =
    let D : Task → Type 0 = λ task. DoesTask (texts c.args.words.now) task
    (world (g.F.Files.words c.args.files.now) (g.F.Files.told c.args.files.now) (g.F.Files.faults c.args.files.now) (g.S.Source.left c.args.input.now) (g.S.Source.faults c.args.input.now) (g.O.Sink.held c.args.out.now) (g.O.Sink.faults c.args.out.now) (g.V.Watch.held c.args.watch.now))
    (world (g.F.Files.words c.plan_files.new.files) (g.F.Files.told c.plan_files.new.files) (g.F.Files.faults c.plan_files.new.files) (g.S.Source.left c.args.input.now) (g.S.Source.faults c.args.input.now) (g.O.Sink.held c.plan_files.new.out) (g.O.Sink.faults c.plan_files.new.out) (g.V.Watch.held c.args.watch.now))
    c.plan_files.result in
    subst D (sym c.in-Plan.is) (c.plan_files.ensures.plans (g.S.Source.left c.args.input.now) (g.S.Source.faults c.args.input.now) (g.V.Watch.held c.args.watch.now))

pub returns-in-Cycle-clause-does : goal.returns-in-Cycle-clause-does
returns-in-Cycle-clause-does g c =
    let D : Task → Type 0 = λ task. DoesTask (texts c.args.words.now) task
    (world (g.F.Files.words c.args.files.now) (g.F.Files.told c.args.files.now) (g.F.Files.faults c.args.files.now) (g.S.Source.left c.args.input.now) (g.S.Source.faults c.args.input.now) (g.O.Sink.held c.args.out.now) (g.O.Sink.faults c.args.out.now) (g.V.Watch.held c.args.watch.now))
    (world (g.F.Files.words c.cycle_files.new.files) (g.F.Files.told c.cycle_files.new.files) (g.F.Files.faults c.cycle_files.new.files) (g.S.Source.left c.cycle_files.new.input) (g.S.Source.faults c.cycle_files.new.input) (g.O.Sink.held c.cycle_files.new.out) (g.O.Sink.faults c.cycle_files.new.out) (g.V.Watch.held c.args.watch.now))
    c.cycle_files.result in
    subst D (sym c.in-Cycle.is) (c.cycle_files.ensures.cycles (g.V.Watch.held c.args.watch.now))

pub returns-in-Run-clause-input : goal.returns-in-Run-clause-input
returns-in-Run-clause-input g c none =
    let T : Task → Type 0 = λ task. TakesFor task
    (world (g.F.Files.words c.args.files.now) (g.F.Files.told c.args.files.now) (g.F.Files.faults c.args.files.now) (g.S.Source.left c.args.input.now) (g.S.Source.faults c.args.input.now) (g.O.Sink.held c.args.out.now) (g.O.Sink.faults c.args.out.now) (g.V.Watch.held c.args.watch.now))
    (world (g.F.Files.words c.run_file.new.files) (g.F.Files.told c.run_file.new.files) (g.F.Files.faults c.run_file.new.files) (g.S.Source.left c.run_file.new.input) (g.S.Source.faults c.run_file.new.input) (g.O.Sink.held c.run_file.new.out) (g.O.Sink.faults c.run_file.new.out) (g.V.Watch.held c.run_file.new.watch)) in
    c.run_file.ensures.input (λ bytes reads. none (subst T (sym c.in-Run.is) (bytes, reads)))

pub returns-in-Profile-clause-input : goal.returns-in-Profile-clause-input
returns-in-Profile-clause-input g c none =
    let T : Task → Type 0 = λ task. TakesFor task
    (world (g.F.Files.words c.args.files.now) (g.F.Files.told c.args.files.now) (g.F.Files.faults c.args.files.now) (g.S.Source.left c.args.input.now) (g.S.Source.faults c.args.input.now) (g.O.Sink.held c.args.out.now) (g.O.Sink.faults c.args.out.now) (g.V.Watch.held c.args.watch.now))
    (world (g.F.Files.words c.profile_files.new.files) (g.F.Files.told c.profile_files.new.files) (g.F.Files.faults c.profile_files.new.files) (g.S.Source.left c.profile_files.new.input) (g.S.Source.faults c.profile_files.new.input) (g.O.Sink.held c.profile_files.new.out) (g.O.Sink.faults c.profile_files.new.out) (g.V.Watch.held c.args.watch.now)) in
    c.profile_files.ensures.input (λ operands are linked. none (subst T (sym c.in-Profile.is) (operands, are, linked)))

pub returns-in-Cycle-clause-input : goal.returns-in-Cycle-clause-input
returns-in-Cycle-clause-input g c none =
    let T : Task → Type 0 = λ task. TakesFor task
    (world (g.F.Files.words c.args.files.now) (g.F.Files.told c.args.files.now) (g.F.Files.faults c.args.files.now) (g.S.Source.left c.args.input.now) (g.S.Source.faults c.args.input.now) (g.O.Sink.held c.args.out.now) (g.O.Sink.faults c.args.out.now) (g.V.Watch.held c.args.watch.now))
    (world (g.F.Files.words c.cycle_files.new.files) (g.F.Files.told c.cycle_files.new.files) (g.F.Files.faults c.cycle_files.new.files) (g.S.Source.left c.cycle_files.new.input) (g.S.Source.faults c.cycle_files.new.input) (g.O.Sink.held c.cycle_files.new.out) (g.O.Sink.faults c.cycle_files.new.out) (g.V.Watch.held c.args.watch.now)) in
    c.cycle_files.ensures.input (λ operands are. none (subst T (sym c.in-Cycle.is) (operands, are)))

pub returns-in-Run-clause-watch : goal.returns-in-Run-clause-watch
returns-in-Run-clause-watch g c none =
    c.run_file.ensures.watch (traces_else c.in-Run.settings c.in-Run.show c.in-Run.image (λ shows. none (subst ShowsOutput (sym c.in-Run.is) shows)))

pub returns-in-Assemble-clause-rose : goal.returns-in-Assemble-clause-rose
returns-in-Assemble-clause-rose g c =
    assembles_risen c.in-Assemble.text _ _ c.assemble_file.result (g.S.Source.faults c.args.input.now) (g.S.Source.faults c.args.input.now)
    (c.assemble_file.ensures.assembles (g.S.Source.left c.args.input.now) (g.S.Source.faults c.args.input.now) (g.V.Watch.held c.args.watch.now))

pub returns-in-Plan-clause-rose : goal.returns-in-Plan-clause-rose
returns-in-Plan-clause-rose g c =
    plans_risen c.in-Plan.settings c.in-Plan.rounds c.in-Plan.table _ _ c.plan_files.result (g.S.Source.faults c.args.input.now) (g.S.Source.faults c.args.input.now)
    (c.plan_files.ensures.plans (g.S.Source.left c.args.input.now) (g.S.Source.faults c.args.input.now) (g.V.Watch.held c.args.watch.now))

pub returns-in-Link-clause-rose : goal.returns-in-Link-clause-rose
returns-in-Link-clause-rose g c =
    links_risen _ c.in-Link.first _ _ c.link_files.result (g.S.Source.faults c.args.input.now) (g.S.Source.faults c.args.input.now)
    (c.link_files.ensures.links (g.S.Source.left c.args.input.now) (g.S.Source.faults c.args.input.now) (g.V.Watch.held c.args.watch.now))

pub returns-in-Ask-clause-rose : goal.returns-in-Ask-clause-rose
returns-in-Ask-clause-rose g c =
    asks_risen _ _ _ _ c.ask_files.result (g.S.Source.faults c.args.input.now) (g.S.Source.faults c.args.input.now)
    (c.ask_files.ensures.asks (g.S.Source.left c.args.input.now) (g.S.Source.faults c.args.input.now) (g.V.Watch.held c.args.watch.now))

pub returns-in-AskWith-clause-rose : goal.returns-in-AskWith-clause-rose
returns-in-AskWith-clause-rose g c =
    asks_with_risen _ _ _ _ c.ask_files_with.result (g.S.Source.faults c.args.input.now) (g.S.Source.faults c.args.input.now)
    (c.ask_files_with.ensures.asks (g.S.Source.left c.args.input.now) (g.S.Source.faults c.args.input.now) (g.V.Watch.held c.args.watch.now))

pub returns-in-Work-clause-rose : goal.returns-in-Work-clause-rose
returns-in-Work-clause-rose g c =
    works_risen c.in-Work.count _ _ c.work.result (g.S.Source.faults c.args.input.now) (g.S.Source.faults c.args.input.now)
    (c.work.ensures.works (g.F.Files.words c.args.files.now) (g.F.Files.told c.args.files.now) (g.F.Files.faults c.args.files.now) (g.S.Source.left c.args.input.now) (g.S.Source.faults c.args.input.now) (g.V.Watch.held c.args.watch.now))
