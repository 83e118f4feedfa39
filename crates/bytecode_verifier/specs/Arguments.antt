-- The arguments of a call: JVM Specification SE 8, 4.10.1.9 (invokestatic and those like it).
-- For contracts within this crate alone: no public contract's meaning rests on this file.
use Rattle.std.specs.Prelude.{Bool, ◌&&◌, List, map, Option}
use Rattle.std.specs.Option.{option_map}
use Rattle.std.specs.List.{list_all}
use Rattle.bytecode_model.specs.Types.{Declared}
use Rattle.bytecode_typing.specs.Types.{VarType, type_of, is_initialized}
use Rattle.bytecode_typing.specs.Checks.{seen}
use Rattle.verifier_types.specs.Site.{Site}
use Rattle.verifier_types.specs.Taken.{arguments_taken}

-- whether all are initialised, and what is left under them
abbrev pub all_taken : List VarType × List VarType → Bool × List VarType
all_taken x = (list_all is_initialized x.0, x.1)

-- the same, where this holds of those that were taken before
abbrev pub and_all : Bool → Bool × List VarType → Bool × List VarType
and_all b x = (b && x.0, x.1)

-- of these types, the first of which is on top
abbrev pub arguments_found : Site → (declared : List Declared) → (stack : List VarType) → Option (Bool × List VarType)
arguments_found s ds stack = option_map all_taken (arguments_taken s.program (seen s.program s.number s.method) (map type_of ds) stack)
