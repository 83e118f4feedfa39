use Rattle.std.proofs.Common.{lit<, sym, ◌∙◌}
use Rattle.boundary.specs.Runs.{RunsAll}
use Rattle.boundary.proofs.Whole.{goes_from, ended_at_once, uncaught_at_once}
use Rattle.boundary.proofs.runs.run.Goals as goal

pub go_to_end-requires : goal.go_to_end-requires
go_to_end-requires g c = (lit< tt, (goes_from c.args.running.now.mode c.in_ok-mode.field-0 (sym c.mode.ensures.is ∙ c.in_ok-mode.was) c.in-Bytecode.is, c.requires.few))

pub returns-in-Halted-clause-runs : goal.returns-in-Halted-clause-runs
unfolding RunsAll
returns-in-Halted-clause-runs g c = λ h s is st. ended_at_once c.runs_add_up.ensures c.cycles_keep.ensures h c.args.limit (record { machine = c.args.running.now.machine; state = s }) (g.D.Devices.told c.args.device.now) st (c.in_ok-mode.ensures.all h s is st ∙ c.in-Halted.is)

pub returns-in-Uncaught-clause-runs : goal.returns-in-Uncaught-clause-runs
unfolding RunsAll
returns-in-Uncaught-clause-runs g c = λ h s is st. uncaught_at_once c.runs_add_up.ensures c.cycles_keep.ensures h c.args.limit (record { machine = c.args.running.now.machine; state = s }) (g.D.Devices.told c.args.device.now) c.in-Uncaught.class st (c.in_ok-mode.ensures.all h s is st ∙ c.in-Uncaught.is)
