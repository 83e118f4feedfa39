use Rattle.bytecode_verifier.proofs.VerifiedLemmas.{first_first}
use Rattle.bytecode_verifier.proofs.laws.what_fails_first_is_first_of_all.Goals as goal

pub returns : goal.returns
returns c = first_first c.the_walk_finds_a_typing.ensures c.frames_stand_at_instructions.ensures c.methods_have_code.ensures c.methods_stand_by_number.ensures
