-- The types of the local variables of a method's frames: lists of them that frames share.
use Rattle.std.specs.Prelude.{◌≡◌, ℕ, ◌-◌, List, [], ◌∷◌, ◌++◌, length, get_or, replicate, slice_get, slice_set}
use Rattle.std.specs.Option.{option_map_or}
use Rattle.class_pool.specs.declared.class.ClassFile.{ClassFile}
use Rattle.bytecode_typing.specs.Types as typing
use Rattle.verifier_types.specs.declared.locals.Locals.{Locals}

-- the classes that tell which type may stand for which, how many local variables there are, and the lists of their types, each at its number
pub record LocalTable : Type 0 where
  pub classes : List ClassFile
  pub max_locals : ℕ
  pub lists : List (List typing.VarType)

abbrev pub lists_seen : LocalTable → List (List typing.VarType)
lists_seen t = t.lists

-- with one list more, behind the others
abbrev pub with_types : LocalTable → List typing.VarType → LocalTable
with_types t ts = record t { lists = t.lists ++ ts ∷ [] }

-- the later table has the classes and the lists of the earlier one, each list at its number, and perhaps others behind them
pub record HasListsOf (earlier later : LocalTable) : Type 0 where
  pub classes : later.classes ≡ earlier.classes
  pub room : later.max_locals ≡ earlier.max_locals
  pub others : List (List typing.VarType)
  pub lists : later.lists ≡ earlier.lists ++ others

-- these types, and Top for the other local variables
abbrev pub filled : (max_locals : ℕ) → List typing.VarType → List typing.VarType
filled n ts = ts ++ replicate (n - length ts) typing.Top

-- the list of a number; the empty one where there is none
abbrev pub types_at : List (List typing.VarType) → (number : ℕ) → List typing.VarType
types_at ls n = get_or ls n []

-- a list with another type at an index, where it has one; Top alone where there is no such list
abbrev pub changed_types : LocalTable → (number index : ℕ) → typing.VarType → List typing.VarType
changed_types t n i x = option_map_or (λ ts. slice_set ts i x) (slice_get t.lists n) (filled t.max_locals [])

-- the lists being these
abbrev pub locals_seen : List (List typing.VarType) → Locals → List typing.VarType
locals_seen ls l = types_at ls l.list
