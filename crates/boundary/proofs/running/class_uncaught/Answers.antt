use Rattle.boundary.proofs.Ended.{ends_returned, ends_uncaught, number_large}
use Rattle.boundary.proofs.running.class_uncaught.Goals as goal

pub overflow_sub-result : goal.overflow_sub-result
overflow_sub-result g c = number_large (record {
  well = c.fitting_states_are_well_formed.ensures;
  fixed = c.fixed_words_are_read.ensures.words;
  objects = c.image_words_lie.ensures.objects;
  ahead = c.words_lie.ensures.ahead;
  read = c.words_are_read_and_written.ensures.words;
}) c.args.machine.now c.in-Some.number c.requires c.in-Some.ensures

pub returns-in-None : goal.returns-in-None
returns-in-None g c = ends_returned (record {
  well = c.fitting_states_are_well_formed.ensures;
  fixed = c.fixed_words_are_read.ensures.words;
  objects = c.image_words_lie.ensures.objects;
  ahead = c.words_lie.ensures.ahead;
  read = c.words_are_read_and_written.ensures.words;
}) c.args.machine.now c.requires c.in-None.ensures

pub returns-in-Some : goal.returns-in-Some
returns-in-Some g c = ends_uncaught (record {
  well = c.fitting_states_are_well_formed.ensures;
  fixed = c.fixed_words_are_read.ensures.words;
  objects = c.image_words_lie.ensures.objects;
  ahead = c.words_lie.ensures.ahead;
  read = c.words_are_read_and_written.ensures.words;
}) c.args.machine.now c.in-Some.number c.requires c.in-Some.ensures
