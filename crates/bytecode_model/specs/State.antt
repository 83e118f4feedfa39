-- Objects, frames and states.
use Rattle.std.specs.Prelude.{ℕ, List, Option}
use Rattle.bytecode_model.specs.declared.Value.{Value}
use Rattle.bytecode_model.specs.declared.Ending.{Ending}

-- an object (2.7): the number of its type, and its fields or elements
pub record Object : Type 0 where
  pub kind : ℕ
  pub parts : List Value

-- A frame (2.6), its top operand first. A Long among the local variables is followed by an unset one; among the operands it is one item.
-- A caller's frame keeps the place of its invoke instruction and has the arguments already taken off.
pub record Frame : Type 0 where
  pub method : ℕ
  pub pc : ℕ
  pub locals : List Value
  pub operands : List Value

-- The top frame first; objects in order of making; what the input has answered, each a byte or the end, and what was put out, in order.
pub record State : Type 0 where
  pub frames : List Frame
  pub objects : List Object
  pub statics : List Value
  pub answers : List (Option ℕ)
  pub output : List ℕ
  pub mode : Ending
