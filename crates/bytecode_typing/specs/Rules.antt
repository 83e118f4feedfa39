-- The rules of the verifier, and how an instruction is held to them in their order: JVM Specification SE 8, 4.9.1, 4.10.1.6 and 4.10.1.9.
use Rattle.std.specs.Prelude.{Bool, true, false, List, [], ◌∷◌, Option, Some, None}
use Rattle.bytecode_model.specs.Types.{NumberType, IntType, LongType, Declared}
use Rattle.bytecode_model.specs.Program.{Program}
use Rattle.bytecode_typing.specs.Types.{VarType, Integer, LongInteger, TypeFrame, is_reference_type, type_of}
use Rattle.bytecode_typing.specs.Assignable.{is_assignable_item}

-- the rules in the order in which they are tried at a place
pub data Rule : Type 0 where
  -- no frame reaches the place, or control can fall past the end
  Flow : Rule
  -- the frame that falls in isn't assignable to the one that the StackMapTable gives
  Merge : Rule
  -- a local variable, pool index, array code, switch range, key order or count is out of its form
  Operand : Rule
  -- the stack or a local variable lacks what the instruction needs, or the stack passes its limit
  Stack : Rule
  -- a protected member of another package is used on an object that isn't of the current class
  Access : Rule
  -- what isn't initialised is used, or what is initialised is begun
  Init : Rule
  -- a branch leads where no frame takes it
  Target : Rule
  -- a handler doesn't take the frame before the instruction
  Handled : Rule

-- What the rules on operands and stack leave of an instruction: the one that fails, or the frame behind the instruction, none where it doesn't fall
-- through, and whether the rules on access, on initialisation and on targets hold, which count after that frame's depth and in this order.
pub data Checked : Type 0 where
  Fails : Rule → Checked
  Leaves : (after : Option TypeFrame) → (access init target : Bool) → Checked

abbrev pub need : Bool → Rule → Checked → Checked
need true r c = c
need false r c = Fails r

abbrev pub found : {A : Type 0} → Option A → Rule → (A → Checked) → Checked
found None r go = Fails r
found (Some x) r go = go x

-- ---- what is popped, one thing after another (canPop)

abbrev pub on_type : List VarType → (VarType → List VarType → Checked) → Checked
on_type [] go = Fails Stack
on_type (t ∷ rest) go = go t rest

-- a reference, null or what isn't initialised
abbrev pub on_reference : List VarType → (VarType → List VarType → Checked) → Checked
on_reference st go = on_type st (λ t rest. need (is_reference_type t) Stack (go t rest))

abbrev pub is_number_type : NumberType → VarType → Bool
is_number_type IntType Integer = true
is_number_type LongType LongInteger = true
is_number_type n t = false

abbrev pub on_number_types : List NumberType → List VarType → (List VarType → Checked) → Checked
on_number_types [] st go = go st
on_number_types (n ∷ ns) st go = on_type st (λ t rest. need (is_number_type n t) Stack (on_number_types ns rest go))

-- arguments of these declared types, the first of which is on top, each taken for what `seen` makes of its type
abbrev pub on_argument_types : Program → (seen : VarType → VarType) → List Declared → List VarType → ((taken rest : List VarType) → Checked) → Checked
on_argument_types P seen [] st go = go [] st
on_argument_types P seen (d ∷ ds) st go =
    on_type st (λ t rest. need (is_assignable_item P (seen t) (type_of d)) Stack (on_argument_types P seen ds rest (λ taken rest2. go (t ∷ taken) rest2)))
