use Rattle.machine_stands.proofs.Standing.{stands_again}
use Rattle.machine_stands.proofs.machines_stand_again.Goals as goal

pub returns : goal.returns
returns c = stands_again (record {
  starts = c.starts_follow_one_another.ensures;
  bytes = c.packed_has_bytes.ensures;
  words = c.rows_are_steps.ensures.stack_has_words;
})
