use Rattle.machine_stands.proofs.Seeing.{machine_is_seen}
use Rattle.machine_stands.proofs.machines_are_seen.Goals as goal

pub returns : goal.returns
returns c = machine_is_seen c.rows_are_steps.ensures.seen
