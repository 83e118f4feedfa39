use Rattle.std.proofs.Common.{ap, ◌∙◌}
use Rattle.program_tables.specs.Resolved.{resolved}
use Rattle.bytecode_typing.specs.Assignable.{is_assignable}
use Rattle.verifier_types.specs.Seen.{type_seen}
use Rattle.verifier_types.proofs.local_lists.LocalLists.is_assignable.Goals as goal

pub returns : goal.returns
returns c = c.is_assignable.ensures ∙ ap (λ t. is_assignable (resolved t.classes) (type_seen c.args.from) (type_seen c.args.to)) c.self.view_is
