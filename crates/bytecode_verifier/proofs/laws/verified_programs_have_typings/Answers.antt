use Rattle.bytecode_verifier.proofs.VerifiedLemmas.{verified_typed}
use Rattle.bytecode_verifier.proofs.laws.verified_programs_have_typings.Goals as goal

pub returns : goal.returns
returns c = verified_typed c.the_walk_finds_a_typing.ensures c.frames_stand_at_instructions.ensures c.methods_have_code.ensures c.methods_stand_by_number.ensures
