use Rattle.call_steps.proofs.TableFamilies.{simulates}
use Rattle.call_steps.proofs.laws.calls_by_receiver_come.Goals as goal

pub returns : goal.returns
returns c = simulates (record {
  plain = c.rows_are_read.ensures.plain;
  shows = c.sketches_show.ensures;
  raises = c.rows_stop.ensures.raises;
  count = c.operands_have_words.ensures.count;
  one = c.operands_have_words.ensures.one;
  parts = c.operands_have_words.ensures.parts;
  list = c.fixed_words_are_read.ensures.raise_list;
  pools = c.fixed_words_are_read.ensures.pools;
  methods = c.methods_are_read.ensures;
  come = c.calls_come.ensures;
  objects = record {
    fixed = c.fixed_words_are_read.ensures.words;
    objects = c.image_words_lie.ensures.objects;
    ahead = c.words_lie.ensures.ahead;
    read = c.words_are_read_and_written.ensures.words;
  };
  nulls = c.table_call_rows_run.ensures.nulls;
  changes = c.table_call_rows_run.ensures.changes;
  runs = c.table_call_rows_run.ensures.runs;
})
