use Rattle.opcode_steps.proofs.HeapLemmas.FieldFamilies.{simulates}
use Rattle.opcode_steps.proofs.heap.fields_are_simulated.Goals as goal

pub returns : goal.returns
returns c = simulates (record {
  plain = c.rows_are_read.ensures.plain;
  shows = c.sketches_show.ensures;
  one = c.operands_have_words.ensures.one;
  two = c.operands_have_words.ensures.two;
  pushed = c.operands_have_words.ensures.pushed;
  pools = c.fixed_words_are_read.ensures.pools;
  not_null = c.objects_are_read.ensures.not_null;
  parts = c.objects_are_read.ensures.parts;
  long_parts = c.objects_are_read.ensures.long_parts;
  statics = c.objects_are_read.ensures.statics;
  long_statics = c.objects_are_read.ensures.long_statics;
  field_widths = c.values_have_places.ensures.field_widths;
  field_places = c.values_have_places.ensures.field_places;
  static_widths = c.values_have_places.ensures.static_widths;
  parts_written = c.objects_are_written.ensures.parts;
  long_parts_written = c.objects_are_written.ensures.long_parts;
  statics_written = c.objects_are_written.ensures.statics;
  long_statics_written = c.objects_are_written.ensures.long_statics;
  places = c.objects_are_written.ensures.places;
  made = c.rows_are_made.ensures.go_on;
  raises_made = c.rows_are_made.ensures.raise;
  goes = c.rows_end.ensures.go_on;
  writes = c.rows_end.ensures.write;
  raises = c.rows_end.ensures.raise;
})
