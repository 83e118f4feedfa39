-- Worked examples of lines.
use Rattle.std.specs.Prelude.{◌≡◌, ℕ, pos, negsuc, [], ◌∷◌, None}
use Rattle.bytecode_model.specs.declared.Value.TheVariants.{Int}
use Rattle.bytecode_model.specs.Types.{IntType, LongType, Numbers, References}
use Rattle.bytecode_model.specs.Program.{Program, Method, Handler, NoOperand}
use Rattle.bytecode_model.specs.Rows as rows
use Rattle.bytecode_model.specs.Examples as model
use Rattle.code_lines.specs.Lines.{IsLine, Names, IsNamed, IsPushedBefore, written_by, Writes, IsNeverPut}

-- everything that the invokes throw is caught
abbrev pub catch_all : Handler
catch_all = record { start = 0; end = 2; target = 8; caught = None }

--  0 iconst_5
--  1 istore_1
--  2 iinc 1, -1
--  5 goto 2
--  8 pop, the handler
--  9 bipush 7
-- 11 istore_1
-- 12 return
abbrev pub counting : Method
counting = model.static_method (model.body 4 4 (8 ∷ 60 ∷ 132 ∷ 1 ∷ 255 ∷ 167 ∷ 255 ∷ 253 ∷ 87 ∷ 16 ∷ 7 ∷ 60 ∷ 177 ∷ []) (catch_all ∷ []))

abbrev pub sample : Program
sample = model.sample (counting ∷ []) NoOperand

pub record WorkedLines : Type 0 where
  pub push : IsLine sample 0 0 1 (rows.Push (Int (pos 5)))
  pub step : IsLine sample 0 2 5 (rows.Increment 1 (negsuc 0))
  -- the operand of bipush isn't an instruction, whatever it looks like
  pub within : (next : ℕ) (r : rows.Row) → ¬ IsLine sample 0 10 next r
  pub jump : Names 5 (rows.Jump (negsuc 2)) 2
  pub by_jump : IsNamed sample 0 2
  pub by_handler : IsNamed sample 0 8
  pub first : IsPushedBefore sample 0 1 (pos 5)
  pub behind_handler : IsPushedBefore sample 0 11 (pos 7)
  pub store : Writes sample 0 1 1
  pub never : IsNeverPut sample 0

pub record WorkedWrites : Type 0 where
  pub int : written_by (rows.Store (Numbers IntType) 3) ≡ 3 ∷ []
  pub long : written_by (rows.Store (Numbers LongType) 3) ≡ 3 ∷ 4 ∷ []
  pub reference : written_by (rows.Store References 3) ≡ 3 ∷ []
  pub increment : written_by (rows.Increment 3 (pos 1)) ≡ 3 ∷ []
  pub load : written_by (rows.Load (Numbers IntType) 3) ≡ []

pub record WorkedExamples : Type 0 where
  pub lines : WorkedLines
  pub writes : WorkedWrites
