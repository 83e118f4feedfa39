-- Of a text one line is refused first, and for one reason. Want of memory refuses none.
use Rattle.std.specs.Prelude.{◌≡◌, ◌≢◌, ℕ, List}
use Rattle.bound_texts.specs.declared.loops.BoundsFault.{BoundsFault}
use Rattle.bound_texts.specs.declared.loops.BoundsFault.TheVariants as bounds
use Rattle.bound_texts.specs.declared.sources.SourceFault.{SourceFault}
use Rattle.bound_texts.specs.declared.sources.SourceFault.TheVariants as sources
use Rattle.bound_texts.specs.Loops.Grammar.{AreBoundsRefused, IsRefusedLengths}
use Rattle.bound_texts.specs.Sources.Grammar.{AreNotesRefused}

-- a text of bounds of loops
abbrev pub BoundsFaultsAreOne : Type 0
BoundsFaultsAreOne =
    (text : List ℕ) (a b : BoundsFault) → a ≢ bounds.NoMemory → b ≢ bounds.NoMemory → AreBoundsRefused text a → AreBoundsRefused text b → a ≡ b

-- a text of lengths of arrays
abbrev pub LengthFaultsAreOne : Type 0
LengthFaultsAreOne =
    (text : List ℕ) (a b : BoundsFault) → a ≢ bounds.NoMemory → b ≢ bounds.NoMemory → IsRefusedLengths text a → IsRefusedLengths text b → a ≡ b

-- a text of bounds by lines of sources
abbrev pub NoteFaultsAreOne : Type 0
NoteFaultsAreOne =
    (text : List ℕ) (a b : SourceFault) → a ≢ sources.NoMemory → b ≢ sources.NoMemory → AreNotesRefused text a → AreNotesRefused text b → a ≡ b
