-- The text of bounds of a program's loops, with the lines of their sources, by what is found and what is said of lines.
use Rattle.std.specs.Prelude.{◌≡◌, ◌↔◌, ℕ, ◌<◌, ℤ, List, length, Contains, Option, Some, IsSome, slice_get}
use Rattle.std.specs.List.{concat}
use Rattle.class_pool.specs.declared.class.ClassFile.{ClassFile}
use Rattle.program_tables.specs.Resolved.{resolved}
use Rattle.bytecode_model.specs.Program.{body_of}
use Rattle.name_laws.specs.Written.{written_name}
use Rattle.loop_rules.specs.declared.found.FoundLoop.{FoundLoop}
use Rattle.loop_rules.specs.Finding.{AreCountedLoops}
use Rattle.loop_rules.specs.Sites.{int_at}
use Rattle.program_sites.specs.Ints.Constants.{AreConstants}
use Rattle.bound_texts.specs.Sources.Notes.{Note}
use Rattle.bound_texts.specs.Sources.Grammar.{AreNotesRead, AreNotesRefused}
use Rattle.bound_texts.specs.declared.sources.SourceFault.TheVariants as faults
use Rattle.source_headers.specs.declared.fault.HeaderFault.{HeaderFault}
use Rattle.source_headers.specs.declared.fault.HeaderFault.TheVariants.{BadLine, TwiceLine, Stray, NoMemory}
use Rattle.source_headers.specs.Headers.{IsMethodText}
use Rattle.source_headers.specs.Straying.{IsStray, IsFirstStray}

-- the texts are those of the methods with code, by number
pub record AreMethodTexts (cs : List ClassFile) (notes : List Note) (found : List FoundLoop) (texts : List (List ℕ)) : Type 0 where
  pub coded : (m : ℕ) → IsSome (body_of (resolved cs) m) ↔ (m < length texts)
  pub each : (m : ℕ) (text : List ℕ) → slice_get texts m ≡ Some text → IsMethodText (resolved cs) cs notes found (written_name cs) m text

-- The text is that of the program's headers, methods and places rising, with numbers by the loops that count and by the lines, of which none strays.
pub record IsHeaderFile (cs : List ClassFile) (lines text : List ℕ) : Type 0 where
  pub notes : List Note
  pub read : AreNotesRead lines notes
  pub used : (n : Note) → Contains notes n → ¬ IsStray cs (written_name cs) n.subject
  pub constants : List (Option ℤ)
  pub are : AreConstants cs constants
  pub found : List FoundLoop
  pub counted : AreCountedLoops (resolved cs) (int_at constants) found
  pub texts : List (List ℕ)
  pub methods : AreMethodTexts cs notes found texts
  pub text_is : text ≡ concat texts

-- what refuses the lines
abbrev pub IsLinesFault : (lines : List ℕ) → HeaderFault → Type 0
IsLinesFault lines (BadLine n) = AreNotesRefused lines (faults.Line n)
IsLinesFault lines (TwiceLine n) = AreNotesRefused lines (faults.Twice n)
IsLinesFault lines (Stray subject) = ⊥
IsLinesFault lines NoMemory = Unit {0}

-- Why there is no such text: what refuses the lines first, or else the first that strays.
abbrev pub IsHeaderFault : List ClassFile → (lines : List ℕ) → HeaderFault → Type 0
IsHeaderFault cs lines (BadLine n) = AreNotesRefused lines (faults.Line n)
IsHeaderFault cs lines (TwiceLine n) = AreNotesRefused lines (faults.Twice n)
IsHeaderFault cs lines (Stray subject) = (notes : List Note) × AreNotesRead lines notes × IsFirstStray cs (written_name cs) notes subject.items
IsHeaderFault cs lines NoMemory = Unit {0}
