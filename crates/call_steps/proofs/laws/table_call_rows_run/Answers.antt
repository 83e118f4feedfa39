use Rattle.call_steps.proofs.TableMade.{TableLaws}
use Rattle.call_steps.proofs.TableRuns.{nulls_raise, changes_raise, table_calls_run}
use Rattle.call_steps.proofs.laws.table_call_rows_run.Goals as goal

-- the laws that the body calls
laws : goal.After-opcodes_keep_their_costs → TableLaws
laws c = record {
  parts = record {
    follows = c.machine_follows_the_sketch.ensures;
    goes_on = c.runs_go_on.ensures;
    between = c.runs_go_between_alike_sketches.ensures;
    splits = c.sketches_can_be_split_anywhere.ensures;
    moves = c.stack_pointer_moves.ensures;
    frames = c.frames_change.ensures.moves;
    costs = c.opcodes_keep_their_costs.ensures;
    rows = c.rows_are_steps.ensures;
  };
  loads = c.stack_word_is_loaded.ensures;
}

pub returns-clause-nulls : goal.returns-clause-nulls
returns-clause-nulls c = nulls_raise (laws c)

pub returns-clause-changes : goal.returns-clause-changes
returns-clause-changes c = changes_raise (laws c)

pub returns-clause-runs : goal.returns-clause-runs
returns-clause-runs c = table_calls_run (laws c)
