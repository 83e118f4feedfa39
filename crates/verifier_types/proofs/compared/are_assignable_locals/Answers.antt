use Rattle.std.proofs.Common.{◌≡◌, subst}
use Rattle.program_tables.specs.Resolved.{resolved}
use Rattle.bytecode_typing.specs.Tests.{all_two}
use Rattle.bytecode_typing.specs.Assignable.{is_assignable}
use Rattle.verifier_types.specs.Locals.{lists_seen, locals_seen}
use Rattle.verifier_types.proofs.compared.are_assignable_locals.Goals as goal

pub returns-in-None-clause-answer : goal.returns-in-None-clause-answer
returns-in-None-clause-answer c =
    subst (λ t. c.stand_in_turn.result ≡ all_two (is_assignable (resolved t.classes)) (locals_seen (lists_seen t) c.args.from) (locals_seen (lists_seen t) c.args.to)) c.stand_apart.ensures.kept c.stand_in_turn.ensures
