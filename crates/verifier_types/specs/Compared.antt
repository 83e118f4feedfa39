-- Local variables of two frames side by side, index by index.
-- For contracts within this crate alone: no public contract's meaning rests on this file.
use Rattle.std.specs.Prelude.{◌≡◌, Bool, true, false, List, Option, Some, None, slice_get}
use Rattle.persistent_lists.specs.declared.trees.Difference.{Difference}
use Rattle.bytecode_model.specs.Program.{Program}
use Rattle.bytecode_typing.specs.Types.{VarType}
use Rattle.bytecode_typing.specs.Assignable.{is_assignable}
use Rattle.verifier_types.specs.declared.types.VarType as types
use Rattle.verifier_types.specs.Seen.{type_seen}

-- a local variable may stand for another, or neither is there
abbrev pub stands : Program → Option VarType → Option VarType → Bool
stands P None None = true
stands P (Some t) (Some u) = is_assignable P t u
stands P t u = false

-- both types are there, and the first may stand for the second
abbrev pub is_assignable_at : Program → Option types.VarType → Option types.VarType → Bool
is_assignable_at P (Some t) (Some u) = is_assignable P (type_seen t) (type_seen u)
is_assignable_at P t u = false

-- both numbers have types, and the first of these may stand for the second
abbrev pub are_assignable_numbers : Program → List types.VarType → Difference → Bool
are_assignable_numbers P types d = is_assignable_at P (slice_get types d.first) (slice_get types d.second)

-- the same as a relation
abbrev pub AreAssignable : Program → List types.VarType → Difference → Bool → Type 0
AreAssignable P types d answer = answer ≡ are_assignable_numbers P types d
