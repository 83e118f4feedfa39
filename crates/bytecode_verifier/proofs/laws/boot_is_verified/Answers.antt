use Rattle.bytecode_verifier.proofs.BootVerified.{boot_verified}
use Rattle.bytecode_verifier.proofs.laws.boot_is_verified.Goals as goal

pub returns : goal.returns
returns c = boot_verified c.items_are_few.ensures c.plans_have_entries.ensures c.boot_says_plan.ensures c.methods_stand_by_number.ensures
