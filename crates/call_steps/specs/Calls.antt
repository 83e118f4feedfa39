-- What the opcodes that call make of the words of the stack (JVM Specification SE 8, 2.6 and 6.5).
use Rattle.std.specs.Prelude.{ℕ, ◌≡◌, ◌+◌, ◌^◌, ◌<◌, ◌≤◌, Bool, true, List, ◌++◌, length, slice_index}
use Rattle.micro_flow.specs.declared.CostParams.{CostParams}
use Rattle.jop_core.specs.declared.places.TheConstants.{RAISE_LIST, STACK}
use Rattle.micro_sketch.specs.Sketch.{Sketch}
use Rattle.micro_sketch.specs.Stands.{Env}
use Rattle.micro_sketch.specs.Row.{words_of}
use Rattle.micro_sketch.specs.Rows.{Switch, Raising, RunsSwitch}
use Rattle.micro_sketch.specs.Operand.{past, two_byte_operand, pool_word}
use Rattle.call_steps.specs.Method.{max_locals, argument_words, IsMethod}
use Rattle.call_steps.specs.Entry.{sum_with, fits_at, enter, overflow_at}

pub data CallOp : Type 0 where
  Invokestatic : CallOp

abbrev pub call_code : CallOp → ℕ
call_code Invokestatic = 184

-- the place of the method that is called: the first word of the pool's entry
abbrev pub called : CallOp → Sketch → ℕ
called Invokestatic x = pool_word x (two_byte_operand x)

-- the frames may take as many words
abbrev pub fits : CallOp → Sketch → Bool
fits op x = fits_at x (called op x)

-- What a call needs, on a machine with n on-chip words. Of the words on top, the argument words are those that the method takes.
pub record CanCall (n : ℕ) (op : CallOp) (x : Sketch) : Type 0 where
  pub method : IsMethod x (called op x)
  pub arguments : List ℕ
  pub others : List ℕ
  pub split : words_of x ≡ arguments ++ others
  pub count : length arguments ≡ argument_words x.memory (called op x)
  pub most : length arguments ≤ max_locals x.memory (called op x)
  -- where the frame fits, the stack has at most n - 80 words then
  pub room : fits op x ≡ true → STACK + (length x.deep + length others + max_locals x.memory (called op x) + 5) + 16 ≤ n
  pub size : n < 2 ^ 32
  pub sum : sum_with x (called op x) < 2 ^ 32
  pub raise_list : slice_index x.low RAISE_LIST + 8 < 2 ^ 32

-- the frame that is made, behind the two bytes of the operand
abbrev pub call : (op : CallOp) (x : Sketch) (arguments others more : List ℕ) → Switch
call op x arguments others more = enter x (called op x) (past 2 x).jpc arguments others more

-- The machine comes to the first instruction of the method so, where the further words are as many as the local variables ask for.
pub record RunsCall (n : ℕ) (p : CostParams) (op : CallOp) (x : Sketch) (e : Env) (c : CanCall n op x) : Type 0 where
  pub more : List ℕ
  pub count : length c.arguments + length more ≡ max_locals x.memory (called op x)
  pub runs : RunsSwitch n p (call_code op) (call op x c.arguments c.others more) x e

-- the words of the stack stay
abbrev pub overflow : Sketch → Raising
overflow x = overflow_at x (past 2 x).jpc
