use Rattle.bytecode_typing.proofs.BareProof.{bare_lawful, bare_typed}
use Rattle.bytecode_typing.proofs.bare_programs_are_typed.Goals as goal

pub returns : goal.returns
returns c = λ b bare. (bare_lawful b bare, bare_typed b (c.starts_follow_one_another.ensures b.code) (c.instructions_end_within.ensures b.code) bare)
