use Rattle.machine_stands.proofs.Switching.{switch_comes}
use Rattle.machine_stands.proofs.rows_switch.Goals as goal

pub returns : goal.returns
returns c = switch_comes (record {
  starts = c.starts_follow_one_another.ensures;
  bytes = c.packed_has_bytes.ensures;
  words = c.rows_are_steps.ensures.stack_has_words;
}) c.packed_has_words.ensures (record { seen = c.machines_are_seen.ensures; runs = c.runs_add_up.ensures })
