-- The words of operands, by value (JVM Specification SE 8, 2.6.2).
use Rattle.std.specs.Prelude.{◌≡◌, ℕ, false, ℤ, List, ◌∷◌, ◌++◌, length, sum_by}
use Rattle.bytecode_model.specs.declared.Value.{Value}
use Rattle.bytecode_model.specs.declared.Value.TheVariants.{Long}
use Rattle.bytecode_model.specs.Types.{is_long}
use Rattle.bytecode_model.specs.Sizes.{value_words}
use Rattle.image_facts.specs.Words.{high_word, low_word}
use Rattle.machine_stands.specs.Frames.{IsWordOf, AreOperands}

-- the top word is that of a value, and the others are those of the rest
pub record OneOnTop (place : ℕ → ℕ) (v : Value) (rest : List Value) (words : List ℕ) : Type 0 where
  pub word : ℕ
  pub others : List ℕ
  pub split : words ≡ word ∷ others
  pub is : IsWordOf place v word
  pub stay : AreOperands place rest others

pub record LongOnTop (place : ℕ → ℕ) (n : ℤ) (rest : List Value) (words : List ℕ) : Type 0 where
  pub others : List ℕ
  pub split : words ≡ low_word n ∷ high_word n ∷ others
  pub stay : AreOperands place rest others

abbrev pub OneWordIsOnTop : Type 0
OneWordIsOnTop = (place : ℕ → ℕ) (v : Value) (rest : List Value) (words : List ℕ) → is_long v ≡ false → AreOperands place (v ∷ rest) words
    → OneOnTop place v rest words

abbrev pub TwoWordsAreOnTop : Type 0
TwoWordsAreOnTop = (place : ℕ → ℕ) (n : ℤ) (rest : List Value) (words : List ℕ) → AreOperands place (Long n ∷ rest) words → LongOnTop place n rest words

-- a value of one word on top of others
abbrev pub OneWordIsPushed : Type 0
OneWordIsPushed = (place : ℕ → ℕ) (v : Value) (rest : List Value) (word : ℕ) (words : List ℕ) → is_long v ≡ false → IsWordOf place v word
    → AreOperands place rest words → AreOperands place (v ∷ rest) (word ∷ words)

-- operands in two parts, of which each has its words
pub record Parts (place : ℕ → ℕ) (upper lower : List Value) (words : List ℕ) : Type 0 where
  pub upper_words : List ℕ
  pub lower_words : List ℕ
  pub split : words ≡ upper_words ++ lower_words
  pub are_upper : AreOperands place upper upper_words
  pub are_lower : AreOperands place lower lower_words

abbrev pub OperandsArePartedAnywhere : Type 0
OperandsArePartedAnywhere = (place : ℕ → ℕ) (upper lower : List Value) (words : List ℕ) → AreOperands place (upper ++ lower) words
    → Parts place upper lower words

abbrev pub OperandsAreJoined : Type 0
OperandsAreJoined = (place : ℕ → ℕ) (upper lower : List Value) (upper_words lower_words : List ℕ) → AreOperands place upper upper_words
    → AreOperands place lower lower_words
    → AreOperands place (upper ++ lower) (upper_words ++ lower_words)

abbrev pub OperandsHaveWords : Type 0
OperandsHaveWords = (place : ℕ → ℕ) (vs : List Value) (words : List ℕ) → AreOperands place vs words → length words ≡ sum_by value_words vs
