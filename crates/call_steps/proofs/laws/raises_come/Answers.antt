use Rattle.call_steps.proofs.RaiseStates.{unwinds}
use Rattle.call_steps.proofs.laws.raises_come.Goals as goal

pub returns : goal.returns
returns c = unwinds (record {
  seen = c.raises_unwind.ensures.seen;
  handlers_come = c.raises_unwind.ensures.handlers;
  drops_come = c.raises_unwind.ensures.drops;
  uncaught_come = c.raises_unwind.ensures.uncaught;
  tables = record {
    fixed = c.fixed_words_are_read.ensures.words;
    objects = c.image_words_lie.ensures.objects;
    ahead = c.words_lie.ensures.ahead;
    read = c.words_are_read_and_written.ensures.words;
  };
  methods = c.methods_are_read.ensures;
  starts = c.starts_follow_one_another.ensures;
  within = c.instructions_end_within.ensures;
  saved = c.frames_have_room.ensures.saved;
  room = c.frames_have_room.ensures.room;
  count = c.operands_have_words.ensures.count;
  handlers_run = c.raise_routine_runs.ensures.handlers;
  frames_drop = c.raise_routine_runs.ensures.drops;
  last_stops = c.raise_routine_runs.ensures.stops;
})
