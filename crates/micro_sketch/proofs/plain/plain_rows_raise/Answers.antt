use Rattle.micro_sketch.proofs.PlainRows.Running.{rows_raise}
use Rattle.micro_sketch.proofs.plain.plain_rows_raise.Goals as goal

pub returns : goal.returns
returns c = rows_raise c.rows_are_steps.ensures (record { follows = c.machine_follows_the_sketch.ensures; goes_on = c.runs_go_on.ensures; loads = c.low_word_is_loaded.ensures }) c.opcodes_keep_their_costs.ensures
