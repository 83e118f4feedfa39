use Rattle.machine_stands.proofs.Stopping.{raise_comes, end_comes}
use Rattle.machine_stands.proofs.rows_stop.Goals as goal

pub returns-clause-raises : goal.returns-clause-raises
returns-clause-raises c = raise_comes c.rows_are_steps.ensures.stack_has_words (record { seen = c.machines_are_seen.ensures; runs = c.runs_add_up.ensures })

pub returns-clause-ends : goal.returns-clause-ends
returns-clause-ends c = end_comes c.rows_are_steps.ensures.stack_has_words (record { seen = c.machines_are_seen.ensures; runs = c.runs_add_up.ensures })
