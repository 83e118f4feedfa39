-- The instruction of a method that is checked, and what is found of its row.
-- For contracts within this crate alone: no public contract's meaning rests on this file.
use Rattle.std.specs.Prelude.{◌≡◌, ℕ, List, Option, Some, None}
use Rattle.std.specs.Option.{option_map, IsSomeAnd}
use Rattle.std.specs.Borrow.{Bor}
use Rattle.bytecode_model.specs.declared.Value.TheVariants.{Ref}
use Rattle.bytecode_model.specs.Types.{OfClass}
use Rattle.bytecode_model.specs.Program.{Program, Method, Operand, AString, string_class}
use Rattle.bytecode_model.specs.Rows.{Row}
use Rattle.program_tables.specs.declared.operand.Instruction.{Instruction}
use Rattle.program_tables.specs.declared.operand.MethodShape.{MethodShape}
use Rattle.program_tables.specs.Meanings.{operand_seen, declared_seen, HasShape}
use Rattle.program_tables.specs.Resolved.{resolved}
use Rattle.bytecode_typing.specs.Types.{VarType, ReferenceTo}
use Rattle.bytecode_typing.specs.Checks.{constant_type}
use Rattle.verifier_types.specs.declared.frame.TypeFrame.{TypeFrame}
use Rattle.verifier_types.specs.declared.checked.Checked.{Checked}
use Rattle.verifier_types.specs.Frame.{frame_seen}
use Rattle.verifier_types.specs.Locals.{LocalTable, lists_seen}
use Rattle.verifier_types.specs.Site.{Site, checked_seen}
use Rattle.bytecode_verifier.specs.declared.rows.Checking.{Checking}
use Rattle.bytecode_verifier.specs.Around.{StandsAt}
use Rattle.bytecode_verifier.specs.Maps.{AreMapsOf}
use Rattle.bytecode_verifier.specs.Plain.{check_found}

-- a string that is named is a String
abbrev pub IsTyped : Program → Operand → Type 0
IsTyped P (AString p) = constant_type P (Ref p) ≡ ReferenceTo (OfClass string_class)
IsTyped P o = Unit {0}

-- the instruction x stands at the place of the method m, which is that of the site, the lists of types of local variables being those of this table
pub record IsAt (t : LocalTable) (m : Checking) (pc : ℕ) (x : Instruction) (s : Site) : Type 0 where
  pub classes : t.classes ≡ m.program.now
  pub program : s.program ≡ resolved m.program.now
  pub around : StandsAt m.around s
  pub place : s.place ≡ pc
  pub maps : AreMapsOf (lists_seen t) m.maps.now s
  pub locals : s.body.max_locals ≡ m.max_locals
  pub result : s.method.result ≡ option_map declared_seen m.result
  pub guarded : s.program.guarded s.number s.place ≡ x.guarded
  pub text : IsTyped s.program (operand_seen x.operand)

-- the code's answer and the frame that it leaves are what the rules say of the row, if there is one, with the lists of types of local variables
-- before it and behind it
abbrev pub ChecksRowOver : (before after : List (List VarType)) → Site → Option Row → (old : TypeFrame) → Checked → (new : TypeFrame) → Type 0
ChecksRowOver before after s row old checked new = checked_seen checked (frame_seen after new) ≡ check_found s (frame_seen before old) row

-- where the lists stay as they are
abbrev pub ChecksRowIn : List (List VarType) → Site → Option Row → (old : TypeFrame) → Checked → (new : TypeFrame) → Type 0
ChecksRowIn ls s row old checked new = ChecksRowOver ls ls s row old checked new

-- the same whatever the lists are
abbrev pub ChecksRow : Site → Option Row → (old : TypeFrame) → Checked → (new : TypeFrame) → Type 0
ChecksRow s row old checked new = (ls : List (List VarType)) → ChecksRowIn ls s row old checked new

-- the shape of a method, if there is one
abbrev pub IsShapeOf : Option (Bor MethodShape) → Option Method → Type 0
IsShapeOf None m = m ≡ None
IsShapeOf (Some s) m = IsSomeAnd m (HasShape s.now)
