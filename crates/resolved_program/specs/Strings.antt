-- The strings that entries of a class give, by the numbers of their objects.
use Rattle.std.specs.Prelude.{ℕ, List, Option, Some, None}
use Rattle.std.specs.Option.{option_map}
use Rattle.class_pool.specs.declared.entry.Entry.{Entry}
use Rattle.class_pool.specs.declared.entry.Entry.TheVariants as entries
use Rattle.class_pool.specs.declared.class.ClassFile.{ClassFile}
use Rattle.bytecode_model.specs.Program.{Operand, AString}
use Rattle.class_pool.specs.Grammar.{text_at}
use Rattle.program_tables.specs.Numbers.{string_number}
use Rattle.program_tables.specs.Operands.{string_object}

-- the object of an entry of a pool: that of its string, where it is a String entry whose string has a number
abbrev pub object_of_entry : List ClassFile → List Entry → Option Entry → Option ℕ
object_of_entry cs pool (Some (entries.Text units)) = option_map string_object (string_number cs (text_at pool units))
object_of_entry cs pool entry = None

-- the object of the string that an operand is, if it is one
abbrev pub object_in : Operand → Option ℕ
object_in (AString object) = Some object
object_in _ = None
