-- What is taken off an operand stack, whose top is first, and what is written into it: JVM Specification SE 8, 4.10.1.4 (canPop).
use Rattle.std.specs.Prelude.{ℕ, Bool, false, ◌==◌, if◌then◌else◌, List, [], ◌∷◌, Option, Some, None}
use Rattle.bytecode_model.specs.Lists.{onto}
use Rattle.bytecode_model.specs.Types.{NumberType}
use Rattle.bytecode_model.specs.Program.{Program}
use Rattle.bytecode_typing.specs.Types.{VarType, Uninitialized, is_reference_type}
use Rattle.bytecode_typing.specs.Assignable.{is_assignable_item}
use Rattle.bytecode_typing.specs.Rules.{is_number_type}

-- the item on top, and those under it
abbrev pub item_taken : List VarType → Option (VarType × List VarType)
item_taken [] = None
item_taken (t ∷ rest) = Some (t, rest)

-- the same where it is a reference, null or what isn't initialised
abbrev pub reference_taken : List VarType → Option (VarType × List VarType)
reference_taken [] = None
reference_taken (t ∷ rest) = if is_reference_type t then Some (t, rest) else None

-- what is left under numbers of these types, the first of which is on top
abbrev pub numbers_taken : List NumberType → List VarType → Option (List VarType)
numbers_taken [] stack = Some stack
numbers_taken (n ∷ ns) [] = None
numbers_taken (n ∷ ns) (t ∷ rest) = if is_number_type n t then numbers_taken ns rest else None

abbrev pub with_item : VarType → Option (List VarType × List VarType) → Option (List VarType × List VarType)
with_item t taken = onto taken (λ x. Some (t ∷ x.0, x.1))

-- arguments that may stand for these types, the first of which is on top, each taken for what `seen` makes of its type; and what is left under them
abbrev pub arguments_taken : Program → (seen : VarType → VarType) → (types : List VarType) → List VarType → Option (List VarType × List VarType)
arguments_taken P seen [] stack = Some ([], stack)
arguments_taken P seen (d ∷ ds) [] = None
arguments_taken P seen (d ∷ ds) (t ∷ rest) = if is_assignable_item P (seen t) d then with_item t (arguments_taken P seen ds rest) else None

-- the type of what the `new` at this place made
abbrev pub is_made : (place : ℕ) → VarType → Bool
is_made place (Uninitialized q) = place == q
is_made place t = false
