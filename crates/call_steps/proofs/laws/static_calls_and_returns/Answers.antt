use Rattle.call_steps.proofs.Families.{simulates}
use Rattle.call_steps.proofs.laws.static_calls_and_returns.Goals as goal

pub returns : goal.returns
returns c = simulates (record {
  plain = c.rows_are_read.ensures.plain;
  shows = c.sketches_show.ensures;
  switches = c.rows_switch.ensures;
  ends = c.rows_stop.ensures.ends;
  one = c.operands_have_words.ensures.one;
  two = c.operands_have_words.ensures.two;
  pushed = c.operands_have_words.ensures.pushed;
  pools = c.fixed_words_are_read.ensures.pools;
  within = c.instructions_end_within.ensures;
  methods = c.methods_are_read.ensures;
  room = c.frames_have_room.ensures.room;
  saved = c.frames_have_room.ensures.saved;
  calls = c.call_rows_run.ensures.runs;
  overflows = c.call_rows_run.ensures.raises;
  come = c.calls_come.ensures;
  returns = c.return_rows_run.ensures.runs;
  last = c.return_rows_run.ensures.ends;
})
