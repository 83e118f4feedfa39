-- What the code has in place of what the definitions have.
use Rattle.std.specs.Prelude.{ℕ, ◌≤◌, ◌<◌, ◌^◌, true, false, List, length, Option, Some, IfSome}
use Rattle.std.specs.Prelude.{map}
use Rattle.std.specs.HashSet.{HashSet}
use Rattle.std.specs.declared.hash.FoldHasher.{FoldHasher}
use Rattle.std.specs.declared.hash.BuildHasherDefault.{BuildHasherDefault}
use Rattle.std.specs.Option.{option_map}
use Rattle.std.specs.List.{AllByRecursion}
use Rattle.base.specs.Sizes.{longest_file}
use Rattle.class_pool.specs.declared.entry.Entry.{Entry}
use Rattle.class_pool.specs.Grammar.{entry_at}
use Rattle.class_pool.specs.declared.class.ClassFile.{ClassFile}
use Rattle.class_pool.specs.Found.{code_of}
use Rattle.bytecode_model.specs.Lists.{index_of}
use Rattle.bytecode_model.specs.Types.{Kind, OfClass, OfNumbers}
use Rattle.class_lookup.specs.Parts.{same_text}
use Rattle.class_lookup.specs.Symbols.{texts}
use Rattle.program_tables.specs.declared.named.Named.{Named}
use Rattle.program_tables.specs.declared.named.Named.TheVariants as found
use Rattle.program_tables.specs.declared.kinds.Base.{Base}
use Rattle.program_tables.specs.declared.kinds.Base.TheVariants.{Class, Numbers}
use Rattle.program_tables.specs.declared.kinds.ObjectKind.{ObjectKind}
use Rattle.program_tables.specs.Instructions as definitions
use Rattle.program_tables.specs.Instructions.{signature_in}
use Rattle.program_tables.specs.Kinds.{arrays_of}

abbrev pub Kinds : Type 0
Kinds = HashSet ObjectKind (BuildHasherDefault FoldHasher)

-- what is named, by the indexes of a pool
abbrev pub seen_in : List Entry → Named → Option definitions.Named
seen_in pool (found.Constant index) = option_map definitions.Constant (entry_at pool index)
seen_in pool (found.Class index) = Some (definitions.Class index)
seen_in pool (found.Field class member) = option_map (definitions.Field class) (signature_in pool member)
seen_in pool (found.Method class member) = option_map (definitions.Method false class) (signature_in pool member)
seen_in pool (found.InterfaceMethod class member) = option_map (definitions.Method true class) (signature_in pool member)

abbrev pub base_kind : Base → Kind
base_kind (Class c) = OfClass c
base_kind (Numbers code) = OfNumbers code

-- so many dimensions of arrays of references over a class or over arrays of numbers
abbrev pub kind_seen : ObjectKind → Kind
kind_seen k = arrays_of k.dimensions (base_kind k.base)

-- the kinds of a set, in order
abbrev pub kinds_of : Kinds → List Kind
kinds_of set = map kind_seen set.keys

-- the number of each text of the classes among strings, by symbol
abbrev pub numbers_among : (strings : List (List ℕ)) → List ClassFile → List (Option ℕ)
numbers_among strings cs = map (λ text. index_of (same_text text) strings) (texts cs)

-- a class's pool and its code have as many entries and bytes as a class file's (4.1, 4.7.3)
pub record HasFileLimits (c : ClassFile) : Type 0 where
  pub pool : length c.pool < 2 ^ 16
  pub code : AllByRecursion (λ m. IfSome (code_of m) (λ k. length k.code ≤ longest_file)) c.methods
