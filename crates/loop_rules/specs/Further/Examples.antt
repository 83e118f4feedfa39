-- Worked examples of ints that are known.
use Rattle.std.specs.Prelude.{ℤ, pos, [], ◌∷◌, Some, None}
use Rattle.bytecode_model.specs.Program.{Program, Method, NoOperand}
use Rattle.bytecode_model.specs.Examples as model
use Rattle.loop_rules.specs.Further.Known.{Known, Pushes, PushesArray, Stores}

--  0 bipush 8
--  2 newarray int
--  4 dup
--  5 iconst_0
--  6 iconst_5
--  7 iastore
--  8 arraylength
--  9 iconst_1
-- 10 isub
-- 11 istore_1
-- 12 iload_1
-- 13 pop
-- 14 return
abbrev pub computing : Method
computing = model.static_method (model.body 2 4 (16 ∷ 8 ∷ 188 ∷ 10 ∷ 89 ∷ 3 ∷ 8 ∷ 79 ∷ 190 ∷ 4 ∷ 100 ∷ 60 ∷ 27 ∷ 87 ∷ 177 ∷ []) [])

abbrev pub sample : Program
sample = model.sample (computing ∷ []) NoOperand

-- where nothing is known of fields
abbrev pub nothing : Known
nothing = record { constants = λ f. None; statics = λ f. None; fields = λ owner index. None }

pub record WorkedFurtherExamples : Type 0 where
  pub pushed : Pushes sample nothing 0 0 2 (pos 8)
  -- new int[8], and with {5} in place of 8 zeros
  pub array : PushesArray sample nothing 0 0 4 8
  pub filled : PushesArray sample nothing 0 0 8 8
  -- its length, and one less
  pub length : Pushes sample nothing 0 0 9 (pos 8)
  pub less : Pushes sample nothing 0 0 11 (pos 7)
  -- that is what local variable 1 holds
  pub stored : Stores sample nothing 0 1 (Some 11) (pos 7)
  pub loaded : Pushes sample nothing 0 12 13 (pos 7)
  -- nothing is stored where a local variable may be unset
  pub unset : (c : ℤ) → ¬ Stores sample nothing 0 1 None c
