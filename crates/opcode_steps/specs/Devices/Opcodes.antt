-- What the opcodes of devices make of the words of the stack.
use Rattle.std.specs.Prelude.{ℕ, ◌%◌, ◌^◌, [], ◌∷◌}
use Rattle.jop_core.specs.Operations.{input_word}
use Rattle.jop_core.specs.Scene.{first_of, rest_of}
use Rattle.micro_sketch.specs.Sketch.{Sketch}
use Rattle.micro_sketch.specs.Row.{Effect, unchanged, words_of}

-- impdep1 takes a byte of the input, impdep2 puts one out
pub data DeviceOp : Type 0 where
  Impdep1 : DeviceOp
  Impdep2 : DeviceOp

abbrev pub code_of : DeviceOp → ℕ
code_of Impdep1 = 254
code_of Impdep2 = 255

-- at the end of the input the word has all bits set
abbrev pub effect : DeviceOp → Sketch → Effect
effect Impdep1 x = record (unchanged x) { words = input_word (first_of x.answers) ∷ words_of x; answers = rest_of x.answers }
effect Impdep2 x = record (unchanged x) { words = x.next ∷ x.under; output = x.top % 2 ^ 8 ∷ [] }
