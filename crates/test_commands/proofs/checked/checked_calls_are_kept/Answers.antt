use Rattle.test_commands.proofs.CheckedLaw as law
use Rattle.test_commands.proofs.checked.checked_calls_are_kept.Goals as goal

pub returns : goal.returns
returns c = law.checked_calls_are_kept c.bounds_are_kept.ensures.certificates.0 c.bounds_hold_in_runs.ensures.checked c.runs_are_the_bytecodes.ensures.shown
