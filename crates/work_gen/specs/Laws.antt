-- What the laws of the class W say.
use Rattle.std.specs.Prelude.{◌≡◌, ℕ, ◌≤◌, List, length, Some}
use Rattle.base.specs.Sizes.{longest_file}
use Rattle.class_rules.specs.Grammar.{IsClass}
use Rattle.class_making.specs.Right.{IsRightPlan}
use Rattle.class_making.specs.Laws.{HasBytes, SaysPlan}
use Rattle.bound_texts.specs.declared.loops.BoundsFault.{BoundsFault}
use Rattle.bound_texts.specs.declared.loops.BoundsFault.TheVariants.{NoMemory}
use Rattle.bound_texts.specs.Loops.Bounds.{LoopBound, bound_in}
use Rattle.bound_texts.specs.Loops.Grammar.{IsRead, AreBoundsRefused}
use Rattle.work_gen.specs.Work.{turns_of, work_plan, work, bounds_text}
use Rattle.work_gen.specs.Bounds.{adder_text, adder_bounds}

-- the plan says what a class file may say, whatever the number of adders
abbrev pub WorkIsRight : Type 0
WorkIsRight = (n : ℕ) → 1 ≤ n → n ≤ 1000 → IsRightPlan (work_plan n)

-- it is a class file that says what the plan says, and its code is bytes
abbrev pub WorkIsAClass : Type 0
WorkIsAClass = (n : ℕ) → 1 ≤ n → n ≤ 1000 → IsClass (work n) × HasBytes (work n) × SaysPlan (work_plan n) (work n)

-- ---- the text of the bounds

-- it gives the bounds of the adders' loops
abbrev pub BoundsAreRead : Type 0
BoundsAreRead = (n : ℕ) → n ≤ 1000 → IsRead (bounds_text n) (adder_bounds n)

-- so who reads it has these bounds, or no memory
abbrev pub OnlyTheseAreRead : Type 0
OnlyTheseAreRead = (n : ℕ) → n ≤ 1000 → ((bs : List LoopBound) → IsRead (bounds_text n) bs → bs ≡ adder_bounds n)
    × ((fault : BoundsFault) → AreBoundsRefused (bounds_text n) fault → fault ≡ NoMemory)

-- the loop of each adder has a bound among them, as often as it goes round
abbrev pub EachLoopIsBounded : Type 0
EachLoopIsBounded = (n k : ℕ) → n ≤ 1000 → 1 ≤ k → k ≤ n → bound_in (adder_text k) 2 (adder_bounds n) ≡ Some (turns_of k)

-- it is no longer than what is read
abbrev pub TextsAreShort : Type 0
TextsAreShort = (n : ℕ) → n ≤ 1000 → length (bounds_text n) ≤ longest_file
