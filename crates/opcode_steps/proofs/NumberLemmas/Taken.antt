-- The numbers that a row takes from the operand stack, and their words (JVM Specification SE 8, 2.6.2).
use Rattle.std.proofs.Common.{◌≡◌, ℕ, List, [], ◌∷◌, ◌++◌, refl, ◌∙◌, ap}
use Rattle.std.specs.Prelude.{ℤ}
use Rattle.std.specs.Int.{w32, w64, int_wrap}
use Rattle.std.specs.Int.RustNames.{FitsSigned}
use Rattle.bytecode_model.specs.declared.Value.{Value}
use Rattle.bytecode_model.specs.declared.Value.TheVariants.{Int, Long}
use Rattle.bytecode_model.specs.Types.{NumberType, IntType, LongType}
use Rattle.bytecode_model.specs.Rows.{FunctionOf}
use Rattle.bytecode_model.specs.WellFormed.{AreValues}
use Rattle.bytecode_model.specs.Effects.{Effect, Stuck, on_numbers, number}
use Rattle.image_facts.specs.Words.{int_word, high_word, low_word}
use Rattle.machine_stands.specs.Frames.{AreOperands}
use Rattle.machine_stands.specs.Operands.{OneWordIsOnTop, TwoWordsAreOnTop}

-- numbers of these types, the topmost first
abbrev pub Numbers : List NumberType → Type 0
Numbers [] = Unit {0}
Numbers (t ∷ ts) = ℤ × Numbers ts

-- what a function gives for them
abbrev pub given : (R : Type 0) (ts : List NumberType) → FunctionOf ts R → Numbers ts → R
given R [] r ns = r
given R (t ∷ ts) f ns = given R ts (f ns.0) ns.1

abbrev pub Fit : (ts : List NumberType) → Numbers ts → Type 0
Fit [] ns = Unit {0}
Fit (IntType ∷ ts) ns = FitsSigned w32 ns.0 × Fit ts ns.1
Fit (LongType ∷ ts) ns = FitsSigned w64 ns.0 × Fit ts ns.1

-- their words on top of others
abbrev pub words_on : (ts : List NumberType) → Numbers ts → List ℕ → List ℕ
words_on [] ns others = others
words_on (IntType ∷ ts) ns others = int_word ns.0 ∷ words_on ts ns.1 others
words_on (LongType ∷ ts) ns others = low_word ns.0 ∷ high_word ns.0 ∷ words_on ts ns.1 others

pub words_on-append : (ts : List NumberType) (ns : Numbers ts) (xs ys : List ℕ) → words_on ts ns xs ++ ys ≡ words_on ts ns (xs ++ ys)
words_on-append [] ns xs ys = refl
words_on-append (IntType ∷ ts) ns xs ys = ap (λ (v : List ℕ). int_word ns.0 ∷ v) (words_on-append ts ns.1 xs ys)
words_on-append (LongType ∷ ts) ns xs ys = ap (λ (v : List ℕ). low_word ns.0 ∷ high_word ns.0 ∷ v) (words_on-append ts ns.1 xs ys)

-- the words of the number that a result is, on top of others
abbrev pub result_words : NumberType → ℤ → List ℕ → List ℕ
result_words IntType r others = int_word (int_wrap w32 r) ∷ others
result_words LongType r others = low_word (int_wrap w64 r) ∷ high_word (int_wrap w64 r) ∷ others

pub result-append : (t : NumberType) (r : ℤ) (xs ys : List ℕ) → result_words t r xs ++ ys ≡ result_words t r (xs ++ ys)
result-append IntType r xs ys = refl
result-append LongType r xs ys = refl

pub result_is : (place : ℕ → ℕ) (t : NumberType) (r : ℤ) (rest : List Value) (others : List ℕ) → AreOperands place rest others → AreOperands place (number t r ∷ rest) (result_words t r others)
result_is place IntType r rest others h = (refl, h)
result_is place LongType r rest others h = (refl, refl, h)

-- Where a row finds numbers of the types that it takes, these are their words.
pub record Taken (place : ℕ → ℕ) (objects : ℕ) (R : Type 0) (ts : List NumberType) (f : FunctionOf ts R) (ops : List Value) (words : List ℕ) : Type 0 where
  pub numbers : Numbers ts
  pub fit : Fit ts numbers
  pub rest : List Value
  pub others : List ℕ
  pub are : words ≡ words_on ts numbers others
  pub stay : AreOperands place rest others
  pub effect : (go : R → List Value → Effect) → on_numbers R ts f ops go ≡ go (given R ts f numbers) rest

module _ (one : OneWordIsOnTop) (two : TwoWordsAreOnTop) (place : ℕ → ℕ) (objects : ℕ) (R : Type 0) where
  pub taken : (ts : List NumberType) (f : FunctionOf ts R) (ops : List Value) (words : List ℕ) → AreValues objects ops → AreOperands place ops words
      → (go : R → List Value → Effect) → (on_numbers R ts f ops go ≡ Stuck → ⊥) → Taken place objects R ts f ops words
  taken [] f ops words values are go defined = record { numbers = tt; fit = tt; rest = ops; others = words; are = refl; stay = are; effect = λ g. refl }
  taken (IntType ∷ ts) f (Int n ∷ ops) words values are go defined =
      let top = one place (Int n) ops words refl are in
      let t = taken ts (f n) ops top.others values.1 top.stay go defined in
      record {
        numbers = (n, t.numbers);
        fit = (values.0, t.fit);
        rest = t.rest;
        others = t.others;
        are = top.split ∙ ap (λ (w : ℕ). w ∷ top.others) top.is ∙ ap (λ (ws : List ℕ). int_word n ∷ ws) t.are;
        stay = t.stay;
        effect = t.effect;
      }
  taken (IntType ∷ ts) f ops words values are go defined = absurd (defined refl)
  taken (LongType ∷ ts) f (Long n ∷ ops) words values are go defined =
      let top = two place n ops words are in
      let t = taken ts (f n) ops top.others values.1 top.stay go defined in
      record {
        numbers = (n, t.numbers);
        fit = (values.0, t.fit);
        rest = t.rest;
        others = t.others;
        are = top.split ∙ ap (λ (ws : List ℕ). low_word n ∷ high_word n ∷ ws) t.are;
        stay = t.stay;
        effect = t.effect;
      }
  taken (LongType ∷ ts) f ops words values are go defined = absurd (defined refl)
