use Rattle.std.proofs.Common.{List, subst}
use Rattle.class_pool.specs.declared.class.ClassFile.{ClassFile}
use Rattle.bytecode_typing.specs.Lawful.{Lawful}
use Rattle.bytecode_typing.specs.Typed.{Typed}
use Rattle.bytecode_verifier.specs.Failure.{types_found}
use Rattle.program_tables.specs.Resolved.{resolved}
use Rattle.jopizer.proofs.linked.Linked.is_typed.Goals as goal

pub returns-clause-lawful : goal.returns-clause-lawful
returns-clause-lawful c = subst (λ (cs : List ClassFile). Lawful (resolved cs)) c.program.ensures.program c.is_typed.ensures.lawful

pub returns-clause-typed : goal.returns-clause-typed
returns-clause-typed c = subst (λ (cs : List ClassFile). Typed (resolved cs) (types_found cs)) c.program.ensures.program c.is_typed.ensures.typed
