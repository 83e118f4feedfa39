use Rattle.std.proofs.Common.{ap, ◌∙◌}
use Rattle.program_tables.specs.Resolved.{resolved}
use Rattle.bytecode_typing.specs.Tests.{all_two}
use Rattle.bytecode_typing.specs.Assignable.{is_assignable_item}
use Rattle.verifier_types.specs.Frame.{operands_seen}
use Rattle.verifier_types.proofs.frame.are_assignable_operands.Goals as goal

pub returns : goal.returns
returns c = c.are_assignable.ensures ∙ ap (λ cs. all_two (is_assignable_item (resolved cs)) (operands_seen c.args.from.now) (operands_seen c.args.to.now)) c.classes.ensures
