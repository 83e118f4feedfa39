-- What is told of the source of a method: its file, and the lines of its places.
use Rattle.std.specs.Prelude.{◌≡◌, ℕ, ◌<◌, ◌≤◌, List, length, Option, Some, None, option_map, slice_index_or}
use Rattle.class_pool.specs.declared.class.ClassFile.{ClassFile}
use Rattle.class_pool.specs.declared.class.Code.{Code}
use Rattle.source_places.specs.declared.methods.sources.MethodSource.{MethodSource}
use Rattle.source_places.specs.Methods.Sources.{code_in, source_at, IsFileOf}

-- the line of a place, where these are the lines of all
abbrev pub line_at : List (Option ℕ) → (place : ℕ) → Option ℕ
line_at lines p = slice_index_or lines p None

-- the file and the line of a place
abbrev pub source_by : Option MethodSource → (place : ℕ) → Option (List ℕ × ℕ)
source_by None p = None
source_by (Some s) p = option_map (λ line. (s.file.items, line)) (line_at s.lines.items p)

-- the file is one of the program's; at a place within the code both are those of the method, and nothing is told of any other place
pub record IsSourceOf (cs : List ClassFile) (m : ℕ) (source : Option MethodSource) : Type 0 where
  pub file : (s : MethodSource) → source ≡ Some s → IsFileOf cs s.file.items
  pub lines : (k : Code) → code_in cs m ≡ Some k → (p : ℕ) → p < length k.code → source_by source p ≡ source_at cs m p
  pub beyond : (k : Code) → code_in cs m ≡ Some k → (p : ℕ) → length k.code ≤ p → source_by source p ≡ None
