-- The two texts of bounds: of how often loops go round, and of how long arrays are.
use Rattle.std.specs.Prelude.{ℕ, List}
use Rattle.bound_texts.specs.declared.loops.quantity.Quantity.TheVariants.{Iterations, Lengths}
use Rattle.bound_texts.specs.declared.loops.BoundsFault.{BoundsFault}
use Rattle.bound_texts.specs.Loops.Bounds.{LoopBound}
use Rattle.bound_texts.specs.Loops.Lines as lines

-- ---- a line

-- `NAME PC loop<=N`
abbrev pub IsLoopLine : (line : List ℕ) (b : LoopBound) → Type 0
IsLoopLine line b = lines.IsBoundLine Iterations line b

-- what a line says: nothing, or the bound of a loop
abbrev pub SaysLoopBound : (line : List ℕ) → List LoopBound → Type 0
SaysLoopBound line bs = lines.SaysBound Iterations line bs

-- of no line of the grammar
abbrev pub IsMalformed : (line : List ℕ) → Type 0
IsMalformed line = lines.IsNoLine Iterations line

-- ---- a text of loops

-- the bounds that lines give, in their order
abbrev pub Give : (lines : List (List ℕ)) → List LoopBound → Type 0
Give given bs = lines.GiveBounds Iterations given bs

-- the bounds that a text gives, of which no two are of one loop
abbrev pub IsRead : (text : List ℕ) (bs : List LoopBound) → Type 0
IsRead text bs = lines.GivesBounds Iterations text bs

-- The lines before this one, whose number counts from 1, give bounds of different loops.
abbrev pub IsReadTo : (text : List ℕ) (number : ℕ) → Type 0
IsReadTo text number = lines.ReachesLine Iterations text number

-- the line bounds a loop that a line before it bounds
abbrev pub IsTwice : (text : List ℕ) (number : ℕ) → Type 0
IsTwice text number = lines.BoundsTwice Iterations text number

-- the cause of a fault: it is that of the first line that is refused
abbrev pub AreBoundsRefused : (text : List ℕ) → BoundsFault → Type 0
AreBoundsRefused text fault = lines.CausesFault Iterations text fault

-- ---- a text of lengths

-- the greatest lengths that a text gives, of which no two are of one place: its lines are `NAME PC length<=N`
abbrev pub IsReadLengths : (text : List ℕ) (bs : List LoopBound) → Type 0
IsReadLengths text bs = lines.GivesBounds Lengths text bs

-- the cause of a fault: it is that of the first line that is refused
abbrev pub IsRefusedLengths : (text : List ℕ) → BoundsFault → Type 0
IsRefusedLengths text fault = lines.CausesFault Lengths text fault
