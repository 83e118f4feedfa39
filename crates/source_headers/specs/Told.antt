-- What is told of a method as the methods are gone through: the lines of its source, and its loops.
use Rattle.std.specs.Prelude.{◌≡◌, ◌≢◌, ℕ, ◌==◌, Bool, false, List, [], length, Contains, Option, Some, flat_map}
use Rattle.std.specs.List.{filter_map}
use Rattle.class_pool.specs.declared.class.ClassFile.{ClassFile}
use Rattle.program_tables.specs.Resolved.{resolved}
use Rattle.bytecode_model.specs.Program.{Program}
use Rattle.bound_report.specs.Contents.Rows.{IsCodePlace}
use Rattle.loop_rules.specs.declared.found.FoundLoop.{FoundLoop}
use Rattle.bound_texts.specs.Sources.Notes.{Note}
use Rattle.bound_rules.specs.Bounding.{IsLeftWith}
use Rattle.bound_causes.specs.Shapes.{IsShape}
use Rattle.bound_causes.specs.declared.shapes.Shape.{Shape}
use Rattle.bound_causes.specs.declared.shapes.Shape.TheVariants.{Irreducible, Reducible}
use Rattle.source_places.specs.declared.methods.sources.MethodSource.{MethodSource}
use Rattle.source_places.specs.Methods.Sources.{source_at, IsFileOf}
use Rattle.source_places.specs.Methods.Told.{line_at, source_by}
use Rattle.source_headers.specs.declared.methods.MethodLoops.{MethodLoops}
use Rattle.source_headers.specs.Straying.{IsHeaderAt}
use Rattle.source_headers.specs.Headers.{Header, found_at, header_lines, irreducible_line}

abbrev pub headed_places : Shape → List ℕ
headed_places (Irreducible nodes) = []
headed_places (Reducible places) = places.items

-- a method of this shape has no loops
abbrev pub has_no_loops : Shape → Bool
has_no_loops (Irreducible nodes) = false
has_no_loops (Reducible places) = length places.items == 0

-- the header at a place of the method
abbrev pub header_by : Option MethodSource → List FoundLoop → (method place : ℕ) → Header
header_by source found m p = record { place = p; source = source_by source p; found = found_at found m p }

abbrev pub headers_by : List Note → List FoundLoop → (method : ℕ) → (name : List ℕ) → Option MethodSource → (places : List ℕ) → List ℕ
headers_by notes found m name source places = flat_map (λ p. header_lines notes name (header_by source found m p)) places

-- the lines of the method, by what is told of it
abbrev pub lines_by : List Note → List FoundLoop → (method : ℕ) → (name : List ℕ) → Option MethodSource → Shape → List ℕ
lines_by notes found m name source (Reducible places) = headers_by notes found m name source places.items
lines_by notes found m name source (Irreducible nodes) = irreducible_line name nodes.items

-- the lines of the source at which loops are headed, or all where loops have several entries
abbrev pub headed_lines : List (Option ℕ) → Shape → List ℕ
headed_lines lines (Reducible places) = filter_map (line_at lines) places.items
headed_lines lines (Irreducible nodes) = filter_map (λ line. line) lines

-- a place at which the source is told: that of a header, or each where loops have several entries
abbrev pub IsToldPlace : Program → (method : ℕ) → Shape → (place : ℕ) → Type 0
IsToldPlace P m (Reducible places) p = Contains places.items p
IsToldPlace P m (Irreducible nodes) p = IsCodePlace P m p

-- The shape is that of the method with all that head loops, and the source is told at each of its places, and at none that isn't within the code. The reduction
-- doesn't leave some nodes and none.
pub record IsToldOf (cs : List ClassFile) (m : ℕ) (x : MethodLoops) : Type 0 where
  pub shape : IsShape (resolved cs) m x.shape
  pub file : (s : MethodSource) → x.source ≡ Some s → IsFileOf cs s.file.items
  pub source : (p : ℕ) → IsToldPlace (resolved cs) m x.shape p → source_by x.source p ≡ source_at cs m p
  pub within : (p : ℕ) (s : List ℕ × ℕ) → source_by x.source p ≡ Some s → IsCodePlace (resolved cs) m p
  pub all : (p : ℕ) → IsHeaderAt (resolved cs) m p → Contains (headed_places x.shape) p
  pub apart : (nodes : List ℕ) → IsLeftWith (resolved cs) m nodes → nodes ≢ [] → ¬ IsLeftWith (resolved cs) m []
