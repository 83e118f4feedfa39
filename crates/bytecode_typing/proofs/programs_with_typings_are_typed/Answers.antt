use Rattle.bytecode_typing.proofs.TypedWalks.{programs_typed}
use Rattle.bytecode_typing.proofs.programs_with_typings_are_typed.Goals as goal

pub returns : goal.returns
returns c = λ P maps law linked have. programs_typed P maps law linked have c.starts_follow_one_another.ensures c.instructions_end_within.ensures
