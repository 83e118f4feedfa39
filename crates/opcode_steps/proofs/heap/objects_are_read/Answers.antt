use Rattle.opcode_steps.proofs.HeapLemmas.Objects.{objects_read, not_null, parts_read, long_parts_read, statics_read, long_statics_read}
use Rattle.opcode_steps.proofs.heap.objects_are_read.Goals as goal

pub returns-clause-objects : goal.returns-clause-objects
returns-clause-objects c = objects_read (record {
  read = c.words_are_read_and_written.ensures.words;
  ahead = c.words_lie.ensures.ahead;
  objects = c.image_words_lie.ensures.objects;
  parts = c.image_words_lie.ensures.parts;
  statics = c.image_words_lie.ensures.statics;
})

pub returns-clause-not_null : goal.returns-clause-not_null
returns-clause-not_null c = not_null

pub returns-clause-parts : goal.returns-clause-parts
returns-clause-parts c = parts_read (record {
  read = c.words_are_read_and_written.ensures.words;
  ahead = c.words_lie.ensures.ahead;
  objects = c.image_words_lie.ensures.objects;
  parts = c.image_words_lie.ensures.parts;
  statics = c.image_words_lie.ensures.statics;
})

pub returns-clause-long_parts : goal.returns-clause-long_parts
returns-clause-long_parts c = long_parts_read (record {
  read = c.words_are_read_and_written.ensures.words;
  ahead = c.words_lie.ensures.ahead;
  objects = c.image_words_lie.ensures.objects;
  parts = c.image_words_lie.ensures.parts;
  statics = c.image_words_lie.ensures.statics;
})

pub returns-clause-statics : goal.returns-clause-statics
returns-clause-statics c = statics_read (record {
  read = c.words_are_read_and_written.ensures.words;
  ahead = c.words_lie.ensures.ahead;
  objects = c.image_words_lie.ensures.objects;
  parts = c.image_words_lie.ensures.parts;
  statics = c.image_words_lie.ensures.statics;
})

pub returns-clause-long_statics : goal.returns-clause-long_statics
returns-clause-long_statics c = long_statics_read (record {
  read = c.words_are_read_and_written.ensures.words;
  ahead = c.words_lie.ensures.ahead;
  objects = c.image_words_lie.ensures.objects;
  parts = c.image_words_lie.ensures.parts;
  statics = c.image_words_lie.ensures.statics;
})
