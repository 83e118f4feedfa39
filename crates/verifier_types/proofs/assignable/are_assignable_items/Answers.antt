use Rattle.std.proofs.Common.{sym}
use Rattle.program_tables.specs.Resolved.{resolved}
use Rattle.bytecode_typing.specs.Assignable.{is_assignable_item}
use Rattle.verifier_types.specs.Seen.{type_seen}
use Rattle.verifier_types.proofs.ListLemmas.{seen_unequal}
use Rattle.verifier_types.proofs.assignable.are_assignable_items.Goals as goal

pub returns-then-from-to : goal.returns-then-from-to
returns-then-from-to c = sym (seen_unequal type_seen (is_assignable_item (resolved c.args.classes.now)) c.args.from.now c.args.to.now c.if-from-to.true)
