-- A case of a switch: JVM Specification SE 8, 4.10.1.9 (tableswitch and lookupswitch).
-- For contracts within this crate alone: no public contract's meaning rests on this file.
use Rattle.std.specs.Prelude.{ℕ, Bool, pos, ◌+ℤ◌}
use Rattle.opcodes.specs.declared.instruction.Case.{Case}
use Rattle.bytecode_model.specs.Lists.{natural}
use Rattle.program_tables.specs.Resolved.{resolved}
use Rattle.bytecode_typing.specs.Types.{TypeFrame}
use Rattle.bytecode_typing.specs.Assignable.{flows_to}
use Rattle.verifier_types.specs.Locals.{LocalTable, lists_seen}
use Rattle.bytecode_verifier.specs.declared.maps.MapFrames.{MapFrames}
use Rattle.bytecode_verifier.specs.Maps.{frame_over}

-- a frame stands where it leads from the place, and takes this one, the classes and the lists of types of local variables being those of this table
abbrev pub is_case_taken : LocalTable → MapFrames → (place : ℕ) → TypeFrame → Case → Bool
is_case_taken t maps place f c = flows_to (resolved t.classes) f (frame_over (lists_seen t) maps (natural (pos place +ℤ c.offset)))
