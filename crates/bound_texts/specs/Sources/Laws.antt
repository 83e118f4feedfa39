-- What follows of texts of bounds by lines of sources.
use Rattle.std.specs.Prelude.{◌≡◌, ℕ, List, map}
use Rattle.bound_texts.specs.Loops.Bounds.{LoopBound}
use Rattle.bound_texts.specs.Loops.Grammar.{IsRead as IsReadByPlace}
use Rattle.bound_texts.specs.declared.sources.SourceFault.{SourceFault}
use Rattle.bound_texts.specs.declared.sources.SourceFault.TheVariants.{NoMemory}
use Rattle.bound_texts.specs.Sources.Notes.{AtPlace, Note}
use Rattle.bound_texts.specs.Sources.Grammar.{AreNotesRead, AreNotesRefused}

-- A text gives one list of bounds.
abbrev pub NotesGiveOne : Type 0
NotesGiveOne = (text : List ℕ) (a b : List Note) → AreNotesRead text a → AreNotesRead text b → a ≡ b

-- No line of a text that gives bounds is refused.
abbrev pub ReadNotesAreNotRefused : Type 0
ReadNotesAreNotRefused = (text : List ℕ) (ns : List Note) (fault : SourceFault) → AreNotesRead text ns → AreNotesRefused text fault → fault ≡ NoMemory

abbrev pub at_place : LoopBound → Note
at_place b = record { subject = AtPlace b.name b.pc; bound = b.bound }

-- A text of bounds by places of methods gives the same bounds.
abbrev pub BoundsAreRead : Type 0
BoundsAreRead = (text : List ℕ) (bs : List LoopBound) → IsReadByPlace text bs → AreNotesRead text (map at_place bs)
