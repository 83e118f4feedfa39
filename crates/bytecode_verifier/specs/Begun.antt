-- How a method begins, as the code has it: JVM Specification SE 8, 4.10.1.6.
-- For contracts within this crate alone: no public contract's meaning rests on this file.
use Rattle.std.specs.Prelude.{◌≡◌, List, ◌++◌, map, Option, Some, None}
use Rattle.bytecode_model.specs.Program.{Method}
use Rattle.bytecode_model.specs.Slots.{padded}
use Rattle.frame_types.specs.declared.steps.FirstLocal.{FirstLocal}
use Rattle.bytecode_typing.specs.Types.{VarType, Top, type_of, type_words, is_this}
use Rattle.bytecode_typing.specs.Walk.{this_types}
use Rattle.verifier_types.specs.Locals.{LocalTable}
use Rattle.bytecode_verifier.specs.declared.first.Beginning.{Beginning}
use Rattle.bytecode_verifier.specs.Listed.{words_of, HasLocals}

-- `this` and the parameters, a long one being one type
abbrev pub first_kinds : Method → List VarType
first_kinds m = this_types m ++ map type_of m.parameters

-- what the rules on frames ask of the type of a local variable
abbrev pub asked_of : VarType → FirstLocal
asked_of t = record { words = type_words t; this = is_this t }

-- it begins with local variables of these types, if they have room
abbrev pub BeginsIfRoom : LocalTable → Option Beginning → List VarType → Type 0
BeginsIfRoom t None types = padded Top t.max_locals (words_of types) ≡ None
BeginsIfRoom t (Some b) types = HasLocals t b.locals types × (b.types.items ≡ map asked_of types)
