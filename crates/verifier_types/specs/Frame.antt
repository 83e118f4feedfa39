-- What the code's frames of types are: JVM Specification SE 8, 4.10.1.4.
use Rattle.std.specs.Prelude.{List, Option}
use Rattle.std.specs.Borrow.{Bor}
use Rattle.std.specs.Option.{option_map}
use Rattle.bytecode_typing.specs.Types as typing
use Rattle.verifier_types.specs.Seen.{stack_seen}
use Rattle.verifier_types.specs.Locals.{locals_seen}
use Rattle.verifier_types.specs.declared.operands.Operands.{Operands}
use Rattle.verifier_types.specs.declared.frame.TypeFrame.{TypeFrame}

-- the operand stack, its top first
abbrev pub operands_seen : Operands → List typing.VarType
operands_seen o = stack_seen o.items.items

-- the lists of types of local variables being these
abbrev pub frame_seen : List (List typing.VarType) → TypeFrame → typing.TypeFrame
frame_seen ls f = record { locals = locals_seen ls f.locals; stack = operands_seen f.operands; flag = f.flag }

-- the frame that is referred to, if there is one
abbrev pub frame_at_seen : List (List typing.VarType) → Option (Bor TypeFrame) → Option typing.TypeFrame
frame_at_seen ls f = option_map (λ g. frame_seen ls g.now) f
