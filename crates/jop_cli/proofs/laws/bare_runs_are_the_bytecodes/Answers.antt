use Rattle.jop_cli.proofs.RunningLaw as law
use Rattle.jop_cli.proofs.laws.bare_runs_are_the_bytecodes.Goals as goal

pub returns-clause-runs : goal.returns-clause-runs
returns-clause-runs c = law.bare_runs_are_the_bytecodes c.one_bare_image.ensures.one

pub returns-clause-traces : goal.returns-clause-traces
returns-clause-traces c = law.bare_traces_are_the_runs c.one_bare_image.ensures.one
