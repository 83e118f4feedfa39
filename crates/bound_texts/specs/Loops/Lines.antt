-- A text of bounds, line by line, by what its numbers bound.
use Rattle.std.specs.Prelude.{◌≡◌, ℕ, suc, ◌==◌, ◌<◌, ◌^◌, List, [], ◌∷◌, ◌++◌, length, codes, IsSome}
use Rattle.std.specs.List.{slice_split}
use Rattle.ascii_text.specs.Line.{lines_of}
use Rattle.ascii_text.specs.Number.{IsDecimalNumber, value_of}
use Rattle.bound_texts.specs.declared.loops.quantity.Quantity.{Quantity}
use Rattle.bound_texts.specs.declared.loops.quantity.Quantity.TheVariants.{Iterations, Lengths}
use Rattle.bound_texts.specs.declared.loops.BoundsFault.{BoundsFault}
use Rattle.bound_texts.specs.declared.loops.BoundsFault.TheVariants.{Line, Twice, NoMemory}
use Rattle.bound_texts.specs.Loops.Bounds.{LoopBound, bound_in, AreOfDifferentLoops}

-- ---- a line

-- empty, or a remark, which begins with #
abbrev pub IsSilent : (line : List ℕ) → Type 0
IsSilent [] = Unit {0}
IsSilent (byte ∷ bytes) = byte ≡ 35

-- the text is the decimal number n, which is below the limit
abbrev pub IsNumberBelow : (limit : ℕ) (text : List ℕ) → (n : ℕ) → Type 0
IsNumberBelow limit text n = IsDecimalNumber text × (value_of text ≡ n) × (n < limit)

-- the text is the decimal number n, which has 32 bits
abbrev pub IsNumber : (text : List ℕ) → (n : ℕ) → Type 0
IsNumber text n = IsNumberBelow (2 ^ 32) text n

-- what stands before the number
abbrev pub word_of : Quantity → List ℕ
word_of Iterations = codes "loop<="
word_of Lengths = codes "length<="

-- what the number is below: it has 32 bits, or is a length of arrays, an int
abbrev pub limit_of : Quantity → ℕ
limit_of Iterations = 2 ^ 32
limit_of Lengths = 2 ^ 31

-- `NAME PC loop<=N` or `NAME PC length<=N`: these are the parts between its spaces
pub record IsBoundLine (quantity : Quantity) (line : List ℕ) (b : LoopBound) : Type 0 where
  pub pc_text : List ℕ
  pub bound_text : List ℕ
  pub parts : slice_split (λ byte. byte == 32) line ≡ b.name ∷ pc_text ∷ (word_of quantity ++ bound_text) ∷ []
  pub named : 0 < length b.name
  pub pc : IsNumber pc_text b.pc
  pub bound : IsNumberBelow (limit_of quantity) bound_text b.bound

-- what a line says: nothing, or a bound
abbrev pub SaysBound : (quantity : Quantity) (line : List ℕ) → List LoopBound → Type 0
SaysBound quantity line [] = IsSilent line
SaysBound quantity line (b ∷ []) = (¬ IsSilent line) × IsBoundLine quantity line b
SaysBound quantity line bs = ⊥

-- of no line of the grammar
abbrev pub IsNoLine : (quantity : Quantity) (line : List ℕ) → Type 0
IsNoLine quantity line = (¬ IsSilent line) × ((b : LoopBound) → ¬ IsBoundLine quantity line b)

-- ---- the text

-- the bounds that lines give, in their order
abbrev pub GiveBounds : (quantity : Quantity) (lines : List (List ℕ)) → List LoopBound → Type 0
GiveBounds quantity [] bs = bs ≡ []
GiveBounds quantity (line ∷ lines) bs =
    (first : List LoopBound) × (rest : List LoopBound) × (bs ≡ first ++ rest) × SaysBound quantity line first × GiveBounds quantity lines rest

-- the bounds that a text gives, of which no two are of one place
pub record GivesBounds (quantity : Quantity) (text : List ℕ) (bs : List LoopBound) : Type 0 where
  pub given : GiveBounds quantity (lines_of text) bs
  pub different : AreOfDifferentLoops bs

-- The lines before this one, whose number counts from 1, give bounds of different places.
pub record ReachesLine (quantity : Quantity) (text : List ℕ) (number : ℕ) : Type 0 where
  pub before : List (List ℕ)
  pub line : List ℕ
  pub after : List (List ℕ)
  pub lines : lines_of text ≡ before ++ line ∷ after
  pub number_is : number ≡ suc (length before)
  pub bounds : List LoopBound
  pub given : GiveBounds quantity before bounds
  pub different : AreOfDifferentLoops bounds

-- the line bounds a place that a line before it bounds
pub record BoundsTwice (quantity : Quantity) (text : List ℕ) (number : ℕ) : Type 0 where
  pub reached : ReachesLine quantity text number
  pub again : LoopBound
  pub says : SaysBound quantity reached.line (again ∷ [])
  pub there : IsSome (bound_in again.name again.pc reached.bounds)

-- the cause of a fault: it is that of the first line that is refused
abbrev pub CausesFault : (quantity : Quantity) (text : List ℕ) → BoundsFault → Type 0
CausesFault quantity text (Line n) = (r : ReachesLine quantity text n) × IsNoLine quantity r.line
CausesFault quantity text (Twice n) = BoundsTwice quantity text n
CausesFault quantity text NoMemory = Unit {0}
