use Rattle.activation_laws.proofs.CountedLemmas.Beginning.{boot_holds}
use Rattle.activation_laws.proofs.counted.laws.boot_holds_constants.Goals as goal

pub returns : goal.returns
returns c = boot_holds c.field_descriptors.ensures
