use Rattle.machine_stands.proofs.Going.{frame_goes_on, frame_raises}
use Rattle.machine_stands.proofs.frames_go_on.Goals as goal

pub returns-clause-goes : goal.returns-clause-goes
returns-clause-goes c = frame_goes_on c.sketches_show.ensures c.rows_come.ensures.comes

pub returns-clause-raises : goal.returns-clause-raises
returns-clause-raises c = frame_raises c.rows_stop.ensures.raises
