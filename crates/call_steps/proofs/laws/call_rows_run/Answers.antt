use Rattle.call_steps.proofs.Parts.{PartLaws}
use Rattle.call_steps.proofs.CallRuns.{calls_run, calls_raise}
use Rattle.call_steps.proofs.laws.call_rows_run.Goals as goal

-- the laws that the body calls
parts : goal.After-opcodes_keep_their_costs → PartLaws
parts c = record {
  follows = c.machine_follows_the_sketch.ensures;
  goes_on = c.runs_go_on.ensures;
  between = c.runs_go_between_alike_sketches.ensures;
  splits = c.sketches_can_be_split_anywhere.ensures;
  moves = c.stack_pointer_moves.ensures;
  frames = c.frames_change.ensures.moves;
  costs = c.opcodes_keep_their_costs.ensures;
  rows = c.rows_are_steps.ensures;
}

pub returns-clause-runs : goal.returns-clause-runs
returns-clause-runs c = calls_run (parts c)

pub returns-clause-raises : goal.returns-clause-raises
returns-clause-raises c = calls_raise (parts c)
