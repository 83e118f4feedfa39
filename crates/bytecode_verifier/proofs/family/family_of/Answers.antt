-- The families are those of the instructions, by computation.
use Rattle.std.proofs.Common.{rules}
use Rattle.bytecode_verifier.proofs.FamilyLemmas.{family_at}
use Rattle.bytecode_verifier.proofs.family.family_of.Goals as goal

pub returns : goal.returns
returns c = search (rules, family_at)
