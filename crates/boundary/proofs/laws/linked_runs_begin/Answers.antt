use Rattle.boundary.proofs.LinkedStart.{runs_begin}
use Rattle.boundary.proofs.laws.linked_runs_begin.Goals as goal

pub returns : goal.returns
returns c = runs_begin (record {
  boots = c.the_boot_state_fits.ensures;
  well = c.fitting_states_are_well_formed.ensures;
  packed = c.packed_has_words.ensures;
  bytes = c.packed_has_bytes.ensures;
  read = c.words_are_read_and_written.ensures.words;
  ranges = c.words_are_read_and_written.ensures.ranges;
  through = c.words_lie.ensures.through;
  fixed = c.image_words_lie.ensures.fixed;
  ends = c.image_words_grow.ensures.end;
})
