-- Which line of which file an instruction was compiled from, by the name of the file as it is written in lines.
use Rattle.std.specs.Prelude.{◌≡◌, ℕ, List, Contains, Option, Some, None, option_map, slice_get}
use Rattle.class_pool.specs.declared.class.ClassFile.{ClassFile}
use Rattle.class_pool.specs.declared.class.Code.{Code}
use Rattle.class_pool.specs.Found.{code_of}
use Rattle.class_lookup.specs.Lookup.{method_at}
use Rattle.program_tables.specs.Resolved.{at_method}
use Rattle.bytecode_model.specs.Lists.{onto}
use Rattle.source_places.specs.Tables.Lines.{line_of}
use Rattle.source_places.specs.Tables.Source.{source_file_of}
use Rattle.name_laws.specs.Written.{written}

-- the file of a class, as its name is written
abbrev pub file_of : ClassFile → Option (List ℕ)
file_of c = option_map written (source_file_of c)

abbrev pub class_of : List ClassFile → (method : ℕ) → Option ClassFile
class_of cs m = at_method cs m None (λ p. slice_get cs p.0)

abbrev pub code_in : List ClassFile → (method : ℕ) → Option Code
code_in cs m = at_method cs m None (λ p. onto (method_at cs p) code_of)

-- the line of an instruction of a method, where its code's tables tell one
abbrev pub line_in : List ClassFile → ClassFile → (method place : ℕ) → Option ℕ
line_in cs c m p = onto (code_in cs m) (λ code. line_of c.pool code p)

-- the file and the line of an instruction of a method
abbrev pub source_in : List ClassFile → (method place : ℕ) → ClassFile → Option (List ℕ × ℕ)
source_in cs m p c = onto (file_of c) (λ file. option_map (λ line. (file, line)) (line_in cs c m p))

abbrev pub source_at : List ClassFile → (method place : ℕ) → Option (List ℕ × ℕ)
source_at cs m p = onto (class_of cs m) (source_in cs m p)

-- some class was compiled from the file
abbrev pub IsFileOf : List ClassFile → (file : List ℕ) → Type 0
IsFileOf cs file = (c : ClassFile) × Contains cs c × (file_of c ≡ Some file)
