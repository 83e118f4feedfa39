-- What follows of texts of bounds.
use Rattle.std.specs.Prelude.{◌≡◌, ℕ, List}
use Rattle.bound_texts.specs.declared.loops.BoundsFault.{BoundsFault}
use Rattle.bound_texts.specs.declared.loops.BoundsFault.TheVariants.{NoMemory}
use Rattle.bound_texts.specs.Loops.Bounds.{LoopBound}
use Rattle.bound_texts.specs.Loops.Grammar.{IsRead, AreBoundsRefused, IsReadLengths, IsRefusedLengths}

-- A text gives one list of bounds.
abbrev pub GivesOne : Type 0
GivesOne = (text : List ℕ) (a b : List LoopBound) → IsRead text a → IsRead text b → a ≡ b

-- No line of a text that gives bounds is refused.
abbrev pub ReadIsNotRefused : Type 0
ReadIsNotRefused = (text : List ℕ) (bs : List LoopBound) (fault : BoundsFault) → IsRead text bs → AreBoundsRefused text fault → fault ≡ NoMemory

-- A text gives one list of lengths.
abbrev pub LengthsGiveOne : Type 0
LengthsGiveOne = (text : List ℕ) (a b : List LoopBound) → IsReadLengths text a → IsReadLengths text b → a ≡ b

-- No line of a text that gives lengths is refused.
abbrev pub ReadLengthsAreNotRefused : Type 0
ReadLengthsAreNotRefused = (text : List ℕ) (bs : List LoopBound) (fault : BoundsFault) → IsReadLengths text bs → IsRefusedLengths text fault → fault ≡ NoMemory
