-- How a text is put, and what answers a question.
use Rattle.std.specs.Prelude.{◌≡◌, ℕ, ◌<◌, ◌≤◌, ◌⊎◌, List, length, take}
use Rattle.std.specs.declared.option.Option.{Option}
use Rattle.outside.specs.Outside.{Grew, Rose}
use Rattle.endings.specs.declared.outcome.Answer.{Answer}
use Rattle.endings.specs.declared.outcome.Answer.TheVariants.{Text, Ends}
use Rattle.endings.specs.declared.outcome.Ending.{Ending}
use Rattle.endings.specs.declared.outcome.Ending.TheVariants.{Written, WriteFault}

-- a part of a text from its beginning was put, where out failed
pub record PutsPart (text : List ℕ) (old new : Option (List ℕ)) (before now : ℕ) : Type 0 where
  pub count : ℕ
  pub part : count < length text
  pub put : Grew old new (take count text)
  pub rose : Rose before now

-- how a text was put, by what out told before and then, and its counts of faults
abbrev pub PutsText : (text : List ℕ) → (old new : Option (List ℕ)) → (before now : ℕ) → Ending → Type 0
PutsText text old new before now ending =
    ((ending ≡ Written) × Grew old new text × (before ≤ now)) ⊎ ((ending ≡ WriteFault) × PutsPart text old new before now)

-- and how an answer was
abbrev pub PutsAnswer : Answer → (old new : Option (List ℕ)) → (before now : ℕ) → Ending → Type 0
PutsAnswer (Text text) old new before now ending = PutsText text.items old new before now ending
PutsAnswer (Ends says) old new before now ending = (ending ≡ says) × (new ≡ old) × (now ≡ before)
