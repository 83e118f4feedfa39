-- What follows of the text of a program's headers.
use Rattle.std.specs.Prelude.{◌↔◌, ℕ, List, Contains, IsSome}
use Rattle.class_pool.specs.declared.class.ClassFile.{ClassFile}
use Rattle.program_tables.specs.Resolved.{resolved}
use Rattle.name_laws.specs.Written.{written_name}
use Rattle.method_flow.specs.Keeping.{BoundOf, WalkKeeps}
use Rattle.method_flow.specs.Regions.{IsWithin}
use Rattle.loop_rules.specs.declared.found.FoundLoop.{FoundLoop}
use Rattle.bound_texts.specs.Sources.Notes.{Note, AtPlace, noted_bound}
use Rattle.bound_rules.specs.Bounding.{AreReducible, HaveLines}
use Rattle.bound_causes.specs.Shapes.{IsShape}
use Rattle.bound_causes.specs.declared.shapes.Shape.{Shape}
use Rattle.bound_causes.specs.declared.shapes.Shape.TheVariants.{Irreducible, Reducible}
use Rattle.source_places.specs.Methods.Sources.{source_at}
use Rattle.source_headers.specs.Headers.{found_at, header_at, said_of_line, number_written}
use Rattle.source_headers.specs.Straying.{MayBeBounded}
use Rattle.source_headers.specs.Files.{AreMethodTexts}

-- the number that is written for the loop with the header at a place of a method that isn't the one that is run first
abbrev pub written_of : List ClassFile → List Note → List FoundLoop → BoundOf
written_of cs notes found m p = number_written notes (written_name cs m) (header_at cs found m p)

-- ---- the loops that have numbers

-- no remark stands in place of numbers: each loop has one entry and a number
abbrev pub HasLoopNumbers : List ClassFile → List Note → List FoundLoop → (method : ℕ) → Shape → Type 0
HasLoopNumbers cs notes found m (Irreducible nodes) = ⊥
HasLoopNumbers cs notes found m (Reducible places) = (p : ℕ) → Contains places.items p → IsSome (written_of cs notes found m p)

-- By the texts of methods: where the method that is run first isn't among those that may run while the root does, each loop of these is bounded by what is
-- written, and has one entry, exactly where no remark on them stands in place of numbers.
abbrev pub HeaderFilesHaveLines : Type 0
HeaderFilesHaveLines =
    (cs : List ClassFile) (notes : List Note) (found : List FoundLoop) (texts : List (List ℕ)) → AreMethodTexts cs notes found texts → (root : ℕ)
    → ((m : ℕ) → IsWithin (resolved cs) root m → MayBeBounded (resolved cs) m)
    → (AreReducible (resolved cs) root × HaveLines (resolved cs) (written_of cs notes found) root)
    ↔ ((m : ℕ) → IsWithin (resolved cs) root m → (shape : Shape) → IsShape (resolved cs) m shape → HasLoopNumbers cs notes found m shape)

-- ---- runs that keep the numbers

-- what is said of the line of a place
abbrev pub line_bound : List ClassFile → List Note → BoundOf
line_bound cs notes m p = said_of_line notes (source_at cs m p)

-- what is said of the place itself
abbrev pub place_bound : List ClassFile → List Note → BoundOf
place_bound cs notes m p = noted_bound (AtPlace (written_name cs m) p) notes

-- the walk keeps what is found, and what is said of lines and of places
pub record KeepsAll (cs : List ClassFile) (notes : List Note) (found : List FoundLoop) (m : ℕ) (ns : List ℕ) : Type 0 where
  pub found_kept : WalkKeeps (resolved cs) (found_at found) m ns
  pub lines_kept : WalkKeeps (resolved cs) (line_bound cs notes) m ns
  pub places_kept : WalkKeeps (resolved cs) (place_bound cs notes) m ns

-- a walk that keeps these keeps what is written
abbrev pub KeptNotesAreKept : Type 0
KeptNotesAreKept =
    (cs : List ClassFile) (notes : List Note) (found : List FoundLoop) (m : ℕ) (ns : List ℕ) → KeepsAll cs notes found m ns
    → WalkKeeps (resolved cs) (written_of cs notes found) m ns

-- and a walk that keeps what is written keeps these
abbrev pub WrittenKeepsNotes : Type 0
WrittenKeepsNotes =
    (cs : List ClassFile) (notes : List Note) (found : List FoundLoop) (m : ℕ) (ns : List ℕ) → WalkKeeps (resolved cs) (written_of cs notes found) m ns
    → KeepsAll cs notes found m ns
