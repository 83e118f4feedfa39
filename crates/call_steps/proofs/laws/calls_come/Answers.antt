use Rattle.call_steps.proofs.CallStates.{calls_come}
use Rattle.call_steps.proofs.laws.calls_come.Goals as goal

pub returns : goal.returns
returns c = calls_come (record {
  shows = c.sketches_show.ensures;
  switches = c.rows_switch.ensures;
  raises = c.rows_stop.ensures.raises;
  count = c.operands_have_words.ensures.count;
  passed = c.arguments_are_passed.ensures;
  list = c.fixed_words_are_read.ensures.raise_list;
  methods = c.methods_are_read.ensures;
  room = c.frames_have_room.ensures.room;
})
