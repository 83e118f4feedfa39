use Rattle.opcode_steps.proofs.NumberLemmas.Steps.{numbers_are_computed}
use Rattle.opcode_steps.proofs.numbers.numbers_are_computed.Goals as goal

pub returns : goal.returns
returns c = numbers_are_computed (record {
  any = c.rows_are_read.ensures.any;
  plain = c.rows_are_read.ensures.plain;
  tables = c.rows_are_read.ensures.table_switches;
  lookups = c.rows_are_read.ensures.lookup_switches;
  shows = c.sketches_show.ensures;
  goes = c.frames_go_on.ensures.goes;
  raises = c.frames_go_on.ensures.raises;
  one = c.operands_have_words.ensures.one;
  two = c.operands_have_words.ensures.two;
  raise_list = c.fixed_words_are_read.ensures.raise_list;
  runs = c.plain_rows_run.ensures;
  runs_to_raise = c.plain_rows_raise.ensures;
  starts = c.starts_follow_one_another.ensures;
})
