use Rattle.std.proofs.Common.{refl, subst, List}
use Rattle.class_pool.specs.declared.class.ClassFile.{ClassFile}
use Rattle.program_tables.specs.Resolved.{resolved}
use Rattle.bytecode_typing.specs.Lawful.{Lawful}
use Rattle.bytecode_typing.specs.Typed.{Typed}
use Rattle.bytecode_verifier.specs.Failure.{maps_of, types_found}
use Rattle.bytecode_typing.specs.WellPlaced.{WellPlaced}
use Rattle.bytecode_verifier.proofs.TypingLemmas.{typings}
use Rattle.bytecode_verifier.proofs.PlacedTables.{verified_placed}
use Rattle.bytecode_verifier.proofs.verified.Verified.is_typed.Goals as goal

pub returns-clause-lawful : goal.returns-clause-lawful
returns-clause-lawful c =
    subst (λ (cs : List ClassFile). Lawful (resolved cs)) c.self.view_is (c.resolved_programs_are_lawful.ensures c.self.inside.program c.is_resolved.ensures)

pub returns-clause-typed : goal.returns-clause-typed
returns-clause-typed c =
    let cs = c.self.inside.program in
    subst (λ (cs : List ClassFile). Typed (resolved cs) (types_found cs)) c.self.view_is
    (c.programs_with_typings_are_typed.ensures (resolved cs) (maps_of cs) (c.resolved_programs_are_lawful.ensures cs c.is_resolved.ensures) refl
    (typings c.the_walk_finds_a_typing.ensures c.frames_stand_at_instructions.ensures c.methods_have_code.ensures c.methods_stand_by_number.ensures cs c.is_resolved.ensures c.self.invariant))

pub returns-clause-placed : goal.returns-clause-placed
returns-clause-placed c =
    let cs = c.self.inside.program in
    subst (λ (cs : List ClassFile). WellPlaced (resolved cs)) c.self.view_is
    (verified_placed c.starts_follow_one_another.ensures c.the_walk_finds_a_typing.ensures c.frames_stand_at_instructions.ensures c.methods_have_code.ensures c.methods_stand_by_number.ensures cs c.is_resolved.ensures c.self.invariant)
