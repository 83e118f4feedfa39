-- What follows of these definitions.
use Rattle.std.specs.Prelude.{◌≡◌, ℕ, pos, negsuc}
use Rattle.bytecode_model.specs.Program.{Program}
use Rattle.method_flow.specs.Keeping.{BoundOf}
use Rattle.memory_rules.specs.Stack.{IsStackNeedOf}
use Rattle.memory_rules.specs.Heap.{Part, IsMostMade, constant_words}
use Rattle.memory_rules.specs.Given.{IsFirstLackingLine, HaveMakingLines, IsFirstLackingLength, HaveLengths}

-- a method has one stack need, and each part of a run one most that it makes
abbrev pub StackNeedsAreOne : Type 0
StackNeedsAreOne = (P : Program) (m a b : ℕ) → IsStackNeedOf P m a → IsStackNeedOf P m b → a ≡ b

abbrev pub MostIsOne : Type 0
MostIsOne = (P : Program) (bounds lengths : BoundOf) (part : Part) (a b : ℕ) → IsMostMade P bounds lengths part a → IsMostMade P bounds lengths part b → a ≡ b

-- one loop is the first without a bound, and one instruction the first without a length
abbrev pub FirstLineIsOne : Type 0
FirstLineIsOne = (P : Program) (bounds : BoundOf) (m p x q : ℕ) → IsFirstLackingLine P bounds m p → IsFirstLackingLine P bounds x q → (m ≡ x) × (p ≡ q)

abbrev pub FirstLengthIsOne : Type 0
FirstLengthIsOne = (P : Program) (lengths : BoundOf) (m p x q : ℕ) → IsFirstLackingLength P lengths m p → IsFirstLackingLength P lengths x q
    → (m ≡ x) × (p ≡ q)

-- where one lacks, not all have them
abbrev pub LackingIsNotHaving : Type 0
LackingIsNotHaving =
    (P : Program) (given : BoundOf) (m p : ℕ) → (IsFirstLackingLine P given m p → ¬ HaveMakingLines P given)
    × (IsFirstLackingLength P given m p → ¬ HaveLengths P given)

-- arrays of ten ints and of ten longs, an empty one, and one whose constant length is negative
pub record ArraysAreCounted : Type 0 where
  pub ints : constant_words 1 (pos 10) ≡ 12
  pub longs : constant_words 2 (pos 10) ≡ 22
  pub empty : constant_words 1 (pos 0) ≡ 2
  pub negative : constant_words 1 (negsuc 0) ≡ 0
