use Rattle.std.proofs.Common.{sym, ◌∙◌, ap}
use Rattle.program_tables.specs.Resolved.{resolved}
use Rattle.bytecode_typing.specs.Assignable.{is_assignable_item}
use Rattle.bytecode_typing.specs.Tests.{all_two}
use Rattle.verifier_types.specs.Seen.{type_seen, types_seen}
use Rattle.verifier_types.proofs.ListLemmas.{all_two_reversed}
use Rattle.verifier_types.proofs.operands.Operands.are_assignable.Goals as goal

pub returns : goal.returns
returns c =
    c.are_assignable_items.ensures
    ∙ (ap (λ l. all_two (is_assignable_item (resolved c.args.classes.now)) (types_seen l) (types_seen c.deref-2.result.now)) c.deref.ensures.value
    ∙ (ap (λ l. all_two (is_assignable_item (resolved c.args.classes.now)) (types_seen c.args.self.now.items.items) (types_seen l)) c.deref-2.ensures.value
    ∙ sym (all_two_reversed type_seen (is_assignable_item (resolved c.args.classes.now)) c.args.self.now.items.items c.args.other.now.items.items)))
