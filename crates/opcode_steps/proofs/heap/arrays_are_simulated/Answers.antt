use Rattle.opcode_steps.proofs.HeapLemmas.ArrayFamilies.{simulates}
use Rattle.opcode_steps.proofs.heap.arrays_are_simulated.Goals as goal

pub returns : goal.returns
returns c = simulates (record {
  plain = c.rows_are_read.ensures.plain;
  shows = c.sketches_show.ensures;
  one = c.operands_have_words.ensures.one;
  two = c.operands_have_words.ensures.two;
  pushed = c.operands_have_words.ensures.pushed;
  fixed = c.fixed_words_are_read.ensures.words;
  objects = c.objects_are_read.ensures.objects;
  not_null = c.objects_are_read.ensures.not_null;
  parts = c.objects_are_read.ensures.parts;
  long_parts = c.objects_are_read.ensures.long_parts;
  short = c.values_have_places.ensures.short;
  widths = c.values_have_places.ensures.element_widths;
  element_places = c.values_have_places.ensures.element_places;
  parts_written = c.objects_are_written.ensures.parts;
  long_parts_written = c.objects_are_written.ensures.long_parts;
  places = c.objects_are_written.ensures.places;
  made = c.rows_are_made.ensures.go_on;
  raises_made = c.rows_are_made.ensures.raise;
  goes = c.rows_end.ensures.go_on;
  writes = c.rows_end.ensures.write;
  raises = c.rows_end.ensures.raise;
})
