use Rattle.opcode_steps.proofs.HeapLemmas.Written.{parts_written, long_parts_written, statics_written, long_statics_written, places_stay}
use Rattle.opcode_steps.proofs.heap.objects_are_written.Goals as goal

pub returns-clause-parts : goal.returns-clause-parts
returns-clause-parts c = parts_written (record {
  written = c.words_are_read_and_written.ensures.written;
  pairs = c.words_are_read_and_written.ensures.pairs;
  ahead = c.words_lie.ensures.ahead;
  parts = c.image_words_differ.ensures.parts;
  statics = c.image_words_differ.ensures.statics;
})

pub returns-clause-long_parts : goal.returns-clause-long_parts
returns-clause-long_parts c = long_parts_written (record {
  written = c.words_are_read_and_written.ensures.written;
  pairs = c.words_are_read_and_written.ensures.pairs;
  ahead = c.words_lie.ensures.ahead;
  parts = c.image_words_differ.ensures.parts;
  statics = c.image_words_differ.ensures.statics;
})

pub returns-clause-statics : goal.returns-clause-statics
returns-clause-statics c = statics_written (record {
  written = c.words_are_read_and_written.ensures.written;
  pairs = c.words_are_read_and_written.ensures.pairs;
  ahead = c.words_lie.ensures.ahead;
  parts = c.image_words_differ.ensures.parts;
  statics = c.image_words_differ.ensures.statics;
})

pub returns-clause-long_statics : goal.returns-clause-long_statics
returns-clause-long_statics c = long_statics_written (record {
  written = c.words_are_read_and_written.ensures.written;
  pairs = c.words_are_read_and_written.ensures.pairs;
  ahead = c.words_lie.ensures.ahead;
  parts = c.image_words_differ.ensures.parts;
  statics = c.image_words_differ.ensures.statics;
})

pub returns-clause-places : goal.returns-clause-places
returns-clause-places c = places_stay
