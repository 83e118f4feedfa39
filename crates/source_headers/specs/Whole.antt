-- How the whole text of headers is read as a text of bounds.
use Rattle.std.specs.Prelude.{◌≡◌, ◌↔◌, ◌⊎◌, ℕ, ℤ, List, Contains, Option, Some}
use Rattle.lists.specs.Lists.{onto}
use Rattle.class_pool.specs.declared.class.ClassFile.{ClassFile}
use Rattle.bytecode_model.specs.Program.{body_of}
use Rattle.program_tables.specs.Resolved.{resolved}
use Rattle.name_laws.specs.Written.{written_name}
use Rattle.program_tables.specs.Resolving.{IsResolved}
use Rattle.method_flow.specs.Keeping.{BoundOf, WalkKeeps}
use Rattle.method_flow.specs.Regions.{IsWithin}
use Rattle.bound_texts.specs.Loops.Bounds.{LoopBound, bound_in}
use Rattle.bound_texts.specs.Loops.Grammar.{IsRead}
use Rattle.loop_rules.specs.declared.found.FoundLoop.{FoundLoop}
use Rattle.loop_rules.specs.Finding.{IsCountedLoop}
use Rattle.loop_rules.specs.Sites.{int_at}
use Rattle.bound_texts.specs.Sources.Notes.{Note}
use Rattle.bound_rules.specs.Bounding.{AreReducible, HaveLines}
use Rattle.bound_causes.specs.Shapes.{IsShape}
use Rattle.bound_causes.specs.declared.shapes.Shape.{Shape}
use Rattle.source_headers.specs.Straying.{MayBeBounded, IsHeaderAt}
use Rattle.source_headers.specs.Files.{IsHeaderFile}
use Rattle.source_headers.specs.Laws.{written_of, HasLoopNumbers, line_bound, place_bound, KeepsAll}

-- ---- what is read

-- the bound is the number that is written for a loop of the method, by the method's name and the place of the header
pub record IsWritten (cs : List ClassFile) (notes : List Note) (found : List FoundLoop) (m : ℕ) (b : LoopBound) : Type 0 where
  pub header : IsHeaderAt (resolved cs) m b.pc
  pub name : b.name ≡ written_name cs m
  pub number : written_of cs notes found m b.pc ≡ Some b.bound

-- The text is read whole, and each header has the bound that is written for it, or none where no number is; there are no other bounds.
pub record GivesWritten (cs : List ClassFile) (notes : List Note) (found : List FoundLoop) (text : List ℕ) : Type 0 where
  pub bounds : List LoopBound
  pub read : IsRead text bounds
  pub headers : (m p : ℕ) → IsHeaderAt (resolved cs) m p → bound_in (written_name cs m) p bounds ≡ written_of cs notes found m p
  pub others : (b : LoopBound) → Contains bounds b → (m : ℕ) × IsWritten cs notes found m b

-- the text of the headers of resolved classes gives just the numbers that are written
abbrev pub HeaderFilesAreRead : Type 0
HeaderFilesAreRead = (cs : List ClassFile) (lines text : List ℕ) → IsResolved cs → (h : IsHeaderFile cs lines text) → GivesWritten cs h.notes h.found text

-- ---- what is read, by methods

-- the bounds of the loops of methods with code, by the methods' names
abbrev pub bounds_by : List ClassFile → List LoopBound → BoundOf
bounds_by cs bounds m p = onto (body_of (resolved cs) m) (λ b. bound_in (written_name cs m) p bounds)

-- each header has the bound that is written for it, or none where no number is, and nothing else has one
pub record BoundsWritten (cs : List ClassFile) (notes : List Note) (found : List FoundLoop) (bound_of : BoundOf) : Type 0 where
  pub headers : (m p : ℕ) → IsHeaderAt (resolved cs) m p → bound_of m p ≡ written_of cs notes found m p
  pub others : (m p n : ℕ) → bound_of m p ≡ Some n → IsHeaderAt (resolved cs) m p

abbrev pub FilesBoundHeaders : Type 0
FilesBoundHeaders =
    (cs : List ClassFile) (lines text : List ℕ) → IsResolved cs → (h : IsHeaderFile cs lines text) → (bounds : List LoopBound) → IsRead text bounds
    → BoundsWritten cs h.notes h.found (bounds_by cs bounds)

-- the loop with the header at the place counts to the number, or that is said of the header's line, or of the place
abbrev pub IsFoundOrSaid : List ClassFile → (constants : List (Option ℤ)) → List Note → (m p n : ℕ) → Type 0
IsFoundOrSaid cs constants notes m p n =
    IsCountedLoop (resolved cs) (int_at constants) (record { method = m; place = p; bound = n }) ⊎ (line_bound cs notes m p ≡ Some n)
    ⊎ (place_bound cs notes m p ≡ Some n)

abbrev pub FileBoundsAreFoundOrSaid : Type 0
FileBoundsAreFoundOrSaid =
    (cs : List ClassFile) (lines text : List ℕ) → IsResolved cs → (h : IsHeaderFile cs lines text) → (bounds : List LoopBound) → IsRead text bounds
    → (m p n : ℕ) → bounds_by cs bounds m p ≡ Some n → IsFoundOrSaid cs h.constants h.notes m p n

-- Where the method that is run first isn't among those that may run while the root does, each loop of these has one entry and is bounded by what the text is
-- read as, exactly where no remark on them stands in place of numbers.
abbrev pub RootsHaveLines : Type 0
RootsHaveLines =
    (cs : List ClassFile) (lines text : List ℕ) → IsResolved cs → (h : IsHeaderFile cs lines text) → (bounds : List LoopBound) → IsRead text bounds → (root : ℕ)
    → ((m : ℕ) → IsWithin (resolved cs) root m → MayBeBounded (resolved cs) m)
    → (AreReducible (resolved cs) root × HaveLines (resolved cs) (bounds_by cs bounds) root)
    ↔ ((m : ℕ) → IsWithin (resolved cs) root m → (shape : Shape) → IsShape (resolved cs) m shape → HasLoopNumbers cs h.notes h.found m shape)

-- a walk that keeps what is found, and what is said of lines and of places, keeps the bounds that the text is read as
abbrev pub KeptNotesKeepTheFile : Type 0
KeptNotesKeepTheFile =
    (cs : List ClassFile) (lines text : List ℕ) → IsResolved cs → (h : IsHeaderFile cs lines text) → (bounds : List LoopBound) → IsRead text bounds
    → (m : ℕ) (ns : List ℕ) → KeepsAll cs h.notes h.found m ns → WalkKeeps (resolved cs) (bounds_by cs bounds) m ns
