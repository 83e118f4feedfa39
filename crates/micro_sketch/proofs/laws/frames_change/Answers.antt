use Rattle.micro_sketch.proofs.FramePlaces.{frame_place_moves, switch_runs_on}
use Rattle.micro_sketch.proofs.laws.frames_change.Goals as goal

pub returns-clause-moves : goal.returns-clause-moves
returns-clause-moves c = frame_place_moves

pub returns-clause-runs_on : goal.returns-clause-runs_on
returns-clause-runs_on c = switch_runs_on
