use Rattle.opcode_steps.proofs.DeviceLemmas.DeviceStates.{simulates}
use Rattle.opcode_steps.proofs.devices.devices_are_simulated.Goals as goal

pub returns : goal.returns
returns c = simulates (record {
  rows = c.rows_are_steps.ensures;
  plain = c.rows_are_read.ensures.plain;
  shows = c.sketches_show.ensures;
  runs = c.rows_come.ensures.runs;
  comes = c.rows_come.ensures.comes;
  one = c.operands_have_words.ensures.one;
  pushed = c.operands_have_words.ensures.pushed;
})
