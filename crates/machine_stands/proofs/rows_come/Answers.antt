use Rattle.machine_stands.proofs.Coming.{made_row_runs, row_comes}
use Rattle.machine_stands.proofs.rows_come.Goals as goal

pub returns-clause-runs : goal.returns-clause-runs
returns-clause-runs c = made_row_runs c.rows_are_steps.ensures.finish_runs c.opcodes_keep_their_costs.ensures

pub returns-clause-comes : goal.returns-clause-comes
returns-clause-comes c = row_comes (record { seen = c.machines_are_seen.ensures; runs = c.runs_add_up.ensures }) c.machines_stand_again.ensures
