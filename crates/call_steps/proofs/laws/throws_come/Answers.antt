use Rattle.call_steps.proofs.Throwing.{simulates}
use Rattle.call_steps.proofs.laws.throws_come.Goals as goal

pub returns : goal.returns
returns c = simulates (record {
  plain = c.rows_are_read.ensures.plain;
  shows = c.sketches_show.ensures;
  raises = c.frames_go_on.ensures.raises;
  one = c.operands_have_words.ensures.one;
  list = c.fixed_words_are_read.ensures.raise_list;
  rows = c.rows_are_steps.ensures;
  costs = c.opcodes_keep_their_costs.ensures;
})
