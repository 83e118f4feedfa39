use Rattle.counted_laws.proofs.Booting.{boot_holds_known}
use Rattle.counted_laws.proofs.laws.boot_holds_known.Goals as goal

pub returns : goal.returns
returns c = boot_holds_known
