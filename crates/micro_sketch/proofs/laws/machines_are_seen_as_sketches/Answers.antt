use Rattle.micro_sketch.proofs.Views.{views}
use Rattle.micro_sketch.proofs.laws.machines_are_seen_as_sketches.Goals as goal

pub returns : goal.returns
returns c = views
