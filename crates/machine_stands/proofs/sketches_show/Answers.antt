use Rattle.machine_stands.proofs.Shown.{sketch_shows}
use Rattle.machine_stands.proofs.sketches_show.Goals as goal

pub returns : goal.returns
returns c = sketch_shows c.packed_has_bytes.ensures c.machines_are_seen.ensures
