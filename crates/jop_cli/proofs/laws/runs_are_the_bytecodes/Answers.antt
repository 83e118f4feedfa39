use Rattle.jop_cli.proofs.OneRun.{runs_are_one}
use Rattle.jop_cli.proofs.RunningLaw as law
use Rattle.jop_cli.proofs.ShownRuns.{runs_are_shown, runs_come_to_boundaries}
use Rattle.jop_cli.proofs.laws.runs_are_the_bytecodes.Goals as goal

pub returns-clause-runs : goal.returns-clause-runs
returns-clause-runs c = law.runs_are_the_bytecodes c.one_linked.ensures c.linked_images_are_read.ensures

pub returns-clause-traces : goal.returns-clause-traces
returns-clause-traces c = law.traces_are_the_runs c.one_linked.ensures c.linked_images_are_read.ensures

pub returns-clause-one : goal.returns-clause-one
returns-clause-one c = runs_are_one

pub returns-clause-shown : goal.returns-clause-shown
returns-clause-shown c = runs_are_shown

pub returns-clause-boundary : goal.returns-clause-boundary
returns-clause-boundary c = runs_come_to_boundaries

pub returns-clause-image : goal.returns-clause-image
returns-clause-image c = c.one_linked.ensures
