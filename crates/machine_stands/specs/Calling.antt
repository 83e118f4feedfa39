-- Arguments on the stack of a caller, as the local variables of the frame that is made.
use Rattle.std.specs.Prelude.{◌≡◌, ℕ, ◌+◌, List, ◌++◌, length, reverse, Some}
use Rattle.bytecode_model.specs.declared.Value.{Value}
use Rattle.bytecode_model.specs.declared.Value.TheVariants.{Unset}
use Rattle.bytecode_model.specs.Types.{is_long}
use Rattle.bytecode_model.specs.Slots.{spread, padded}
use Rattle.machine_stands.specs.Frames.{AreLocals, AreOperands}

-- The topmost words are those of the values that are taken. In the opposite order, and with as many words more as there are further local variables,
-- they are the local variables.
pub record Passed (place : ℕ → ℕ) (rest : List Value) (words : List ℕ) (size : ℕ) (locals : List Value) : Type 0 where
  pub arguments : List ℕ
  pub others : List ℕ
  pub split : words ≡ arguments ++ others
  pub stay : AreOperands place rest others
  pub become : (more : List ℕ) → length arguments + length more ≡ size → AreLocals place locals (reverse arguments ++ more)

abbrev pub ArgumentsArePassed : Type 0
ArgumentsArePassed = (place : ℕ → ℕ) (taken rest : List Value) (words : List ℕ) (size : ℕ) (locals : List Value) → AreOperands place (taken ++ rest) words
    → padded Unset size (spread is_long Unset (reverse taken)) ≡ Some locals → Passed place rest words size locals
