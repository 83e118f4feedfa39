use Rattle.opcode_steps.proofs.HeapLemmas.Ending.{rows_go_on, rows_write, rows_raise}
use Rattle.opcode_steps.proofs.heap.rows_end.Goals as goal

pub returns-clause-go_on : goal.returns-clause-go_on
returns-clause-go_on c = rows_go_on (record {
  shows = c.sketches_show.ensures;
  runs = c.rows_come.ensures.runs;
  goes = c.frames_go_on.ensures.goes;
  writes = c.writes_go_on.ensures;
  raise_runs = c.faults_are_raised.ensures.runs;
  raises = c.faults_are_raised.ensures.comes;
})

pub returns-clause-write : goal.returns-clause-write
returns-clause-write c = rows_write (record {
  shows = c.sketches_show.ensures;
  runs = c.rows_come.ensures.runs;
  goes = c.frames_go_on.ensures.goes;
  writes = c.writes_go_on.ensures;
  raise_runs = c.faults_are_raised.ensures.runs;
  raises = c.faults_are_raised.ensures.comes;
})

pub returns-clause-raise : goal.returns-clause-raise
returns-clause-raise c = rows_raise (record {
  shows = c.sketches_show.ensures;
  runs = c.rows_come.ensures.runs;
  goes = c.frames_go_on.ensures.goes;
  writes = c.writes_go_on.ensures;
  raise_runs = c.faults_are_raised.ensures.runs;
  raises = c.faults_are_raised.ensures.comes;
})
