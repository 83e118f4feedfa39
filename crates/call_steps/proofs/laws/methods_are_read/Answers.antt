use Rattle.call_steps.proofs.MethodRead.{method_read}
use Rattle.call_steps.proofs.laws.methods_are_read.Goals as goal

pub returns : goal.returns
returns c = method_read (record {
  words = c.fixed_words_are_read.ensures.words;
  fixed = c.image_words_lie.ensures.fixed;
  ahead = c.words_lie.ensures.ahead;
  through = c.words_lie.ensures.through;
  ranges = c.words_are_read_and_written.ensures.ranges;
  packed = c.packed_has_words.ensures;
})
