use Rattle.opcode_steps.proofs.ValueLemmas.Moves.{values_move}
use Rattle.opcode_steps.proofs.values.values_are_moved.Goals as goal

pub returns : goal.returns
returns c = values_move (record {
  plain = c.rows_are_read.ensures.plain;
  wide_opcodes = c.rows_are_read.ensures.wide_opcodes;
  wide = c.rows_are_read.ensures.wide;
  shows = c.sketches_show.ensures;
  goes = c.frames_go_on.ensures.goes;
  one = c.operands_have_words.ensures.one;
  two = c.operands_have_words.ensures.two;
  pushed = c.operands_have_words.ensures.pushed;
  parts = c.operands_have_words.ensures.parts;
  joined = c.operands_have_words.ensures.joined;
  count = c.operands_have_words.ensures.count;
  pools = c.fixed_words_are_read.ensures.pools;
  runs = c.plain_rows_run.ensures;
  stay = c.first_objects_stay.ensures;
})
