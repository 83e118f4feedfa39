-- The parts of a line.
use Rattle.std.specs.Prelude.{◌≡◌, ◌≢◌, ℕ, ◌<◌, ◌≤◌, ◌^◌, List, ◌∷◌, ◌++◌, codes, decimal, All}
use Rattle.class_pool.specs.Utf8.{utf8_bytes}
use Rattle.class_rules.specs.Rules.{IsClassName, IsMethodName}
use Rattle.class_making.specs.Right.{IsPoolText}
use Rattle.name_laws.specs.Written.{written}

-- the text before the first byte of this value, and the text behind it
pub record IsCut (byte : ℕ) (text before behind : List ℕ) : Type 0 where
  pub text_is : text ≡ before ++ byte ∷ behind
  pub first : All (λ x. x ≢ byte) before

-- a line `slot NAME LENGTH`, in which no space stands in what is written of the name
pub record ArePartsOf (line name : List ℕ) (length : ℕ) : Type 0 where
  pub line_is : line ≡ codes "slot " ++ (name ++ (codes " " ++ decimal length))
  pub no_space : All (λ x. x ≢ 32) name
  pub some : 1 ≤ length
  pub fits : length < 2 ^ 64

-- the bytes of a text that a pool can hold
pub record IsTextOf (bytes text : List ℕ) : Type 0 where
  pub bytes_are : bytes ≡ utf8_bytes text
  pub fits : IsPoolText text

-- the bytes of the name of a class
pub record IsClassText (bytes name : List ℕ) : Type 0 where
  pub text : IsTextOf bytes name
  pub class : IsClassName name

-- the bytes of the name of a method
pub record IsMethodText (bytes name : List ℕ) : Type 0 where
  pub text : IsTextOf bytes name
  pub method : IsMethodName name

-- Class.name()V
pub record IsNameOf (text class method : List ℕ) : Type 0 where
  pub class_text : List ℕ
  pub method_text : List ℕ
  pub text_is : text ≡ class_text ++ (codes "." ++ (method_text ++ codes "()V"))
  pub class_is : IsClassText class_text class
  pub method_is : IsMethodText method_text method

-- the word is written of Class.name()V
pub record IsWordOf (word class method : List ℕ) : Type 0 where
  pub text : List ℕ
  pub name : IsNameOf text class method
  pub written_so : written text ≡ word
