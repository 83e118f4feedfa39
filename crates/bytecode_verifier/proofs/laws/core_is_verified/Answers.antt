use Rattle.bytecode_verifier.proofs.CoreMethods.{core_verified}
use Rattle.bytecode_verifier.proofs.laws.core_is_verified.Goals as goal

pub returns : goal.returns
returns c = core_verified
