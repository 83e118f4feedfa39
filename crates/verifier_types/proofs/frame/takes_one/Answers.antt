use Rattle.std.proofs.Common.{ap, ◌∙◌, ◌∷◌, []}
use Rattle.program_tables.specs.Resolved.{resolved}
use Rattle.bytecode_typing.specs.Tests.{all_two}
use Rattle.bytecode_typing.specs.Assignable.{is_assignable_item}
use Rattle.verifier_types.specs.Frame.{operands_seen}
use Rattle.verifier_types.specs.Seen.{type_seen}
use Rattle.verifier_types.proofs.frame.takes_one.Goals as goal

pub returns : goal.returns
returns c = c.takes_one.ensures ∙ ap (λ cs. all_two (is_assignable_item (resolved cs)) (type_seen c.args.item ∷ []) (operands_seen c.args.operands.now)) c.classes.ensures
