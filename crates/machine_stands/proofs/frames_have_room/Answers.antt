use Rattle.machine_stands.proofs.Counting.{frames_count, saved_count}
use Rattle.machine_stands.proofs.frames_have_room.Goals as goal

pub returns-clause-room : goal.returns-clause-room
returns-clause-room c = frames_count

pub returns-clause-saved : goal.returns-clause-saved
returns-clause-saved c = saved_count
