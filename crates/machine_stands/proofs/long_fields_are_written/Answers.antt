use Rattle.machine_stands.proofs.LongField.{long_field_written}
use Rattle.machine_stands.proofs.long_fields_are_written.Goals as goal

pub returns : goal.returns
returns c = long_field_written (record {
  ahead = c.words_lie.ensures.ahead;
  fixed = c.image_words_lie.ensures.fixed;
  differ = c.image_words_differ.ensures.parts;
  widths = c.image_words_lie.ensures.widths;
  pairs = c.words_are_read_and_written.ensures.pairs;
})
