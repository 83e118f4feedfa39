use Rattle.jop_cli.proofs.HoldingLaw as law
use Rattle.jop_cli.proofs.ShownRuns.{checked_runs_are_kept}
use Rattle.jop_cli.proofs.laws.bounds_hold_in_runs.Goals as goal

pub returns-clause-holds : goal.returns-clause-holds
returns-clause-holds c = law.bounds_hold_in_runs c.places_tell_words.ensures c.steps_are_told.ensures

pub returns-clause-checked : goal.returns-clause-checked
returns-clause-checked c = checked_runs_are_kept c.one_linked.ensures (law.bounds_hold_in_runs c.places_tell_words.ensures c.steps_are_told.ensures)

pub returns-clause-loads : goal.returns-clause-loads
returns-clause-loads c = (c.activations_load_once.ensures, c.stays_load_once.ensures, c.loads_are_misses.ensures)
