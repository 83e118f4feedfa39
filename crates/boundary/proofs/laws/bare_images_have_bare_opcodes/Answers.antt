use Rattle.boundary.proofs.BarePrograms.{bare_opcodes}
use Rattle.boundary.proofs.laws.bare_images_have_bare_opcodes.Goals as goal

pub returns : goal.returns
returns c = bare_opcodes
