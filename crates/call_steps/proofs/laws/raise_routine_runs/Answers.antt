use Rattle.call_steps.specs.Parts.{PartLaws}
use Rattle.call_steps.proofs.RaiseMade.{handlers_run, frames_drop, last_one_stops}
use Rattle.call_steps.proofs.laws.raise_routine_runs.Goals as goal

-- the laws that the body calls
parts : goal.After-opcodes_keep_their_costs → PartLaws
parts c = record {
  follows = c.machine_follows_the_sketch.ensures;
  goes_on = c.runs_go_on.ensures;
  between = c.runs_go_between_alike_sketches.ensures;
  splits = c.sketches_can_be_split_anywhere.ensures;
  moves = c.stack_pointer_moves.ensures;
  frames = c.frames_change.ensures.moves;
  costs = c.opcodes_keep_their_costs.ensures;
  rows = c.rows_are_steps.ensures;
}

pub returns-clause-handlers : goal.returns-clause-handlers
returns-clause-handlers c = handlers_run (parts c)

pub returns-clause-drops : goal.returns-clause-drops
returns-clause-drops c = frames_drop (parts c)

pub returns-clause-stops : goal.returns-clause-stops
returns-clause-stops c = last_one_stops (parts c)
