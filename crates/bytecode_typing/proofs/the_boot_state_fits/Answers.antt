use Rattle.bytecode_typing.proofs.Beginning.{boot_fits}
use Rattle.bytecode_typing.proofs.the_boot_state_fits.Goals as goal

pub returns : goal.returns
returns c = λ P types limits law typed room. boot_fits P types limits law typed room
