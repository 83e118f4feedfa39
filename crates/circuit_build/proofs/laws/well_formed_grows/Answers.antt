use Rattle.circuit_build.proofs.Grown.{well_formed_grows}
use Rattle.circuit_build.proofs.laws.well_formed_grows.Goals as goal

pub returns : goal.returns
returns c = well_formed_grows
