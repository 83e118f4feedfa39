-- What is told of the methods of a program: their names, and the sources of their places.
use Rattle.std.specs.Prelude.{◌≡◌, ℕ, List, [], length, Option, Some, slice_get}
use Rattle.std.specs.Option.{option_map_or}
use Rattle.lists.specs.Lists.{onto}
use Rattle.class_pool.specs.declared.class.ClassFile.{ClassFile}
use Rattle.name_laws.specs.Written.{written_name}
use Rattle.source_places.specs.Methods.Told.{source_by, IsSourceOf}
use Rattle.program_tables.specs.Numbers.{methods_by_number}
use Rattle.report_lines.specs.declared.methods.MethodText.{MethodText}

-- the name, as it is written, and the source are those of the method
pub record IsTextOf (cs : List ClassFile) (m : ℕ) (x : MethodText) : Type 0 where
  pub name : x.name.items ≡ written_name cs m
  pub source : IsSourceOf cs m x.source

-- those of all methods, by number
pub record AreTextsOf (cs : List ClassFile) (xs : List MethodText) : Type 0 where
  pub long : length xs ≡ length (methods_by_number cs)
  pub each : (m : ℕ) (x : MethodText) → slice_get xs m ≡ Some x → IsTextOf cs m x

-- the file and the line of a place of a method
abbrev pub source_told : List MethodText → (method place : ℕ) → Option (List ℕ × ℕ)
source_told xs m p = onto (slice_get xs m) (λ x. source_by x.source p)

abbrev pub name_told : List MethodText → (method : ℕ) → List ℕ
name_told xs m = option_map_or (λ x. x.name.items) (slice_get xs m) []
