-- What the opcodes that call by a receiver make of the words of the stack (JVM Specification SE 8, 6.5.invokevirtual, 6.5.invokespecial and
-- 6.5.invokeinterface).
use Rattle.std.specs.Prelude.{ℕ, ◌≡◌, ◌+◌, ◌/◌, ◌%◌, ◌^◌, ◌<◌, ◌==◌, Bool, true, false, List, [], ◌∷◌, ◌++◌, length, slice_index}
use Rattle.micro_flow.specs.declared.CostParams.{CostParams}
use Rattle.jop_core.specs.declared.places.TheConstants.{RAISE_LIST}
use Rattle.jop_core.specs.State.{MachineState}
use Rattle.micro_sketch.specs.Sketch.{Sketch}
use Rattle.micro_sketch.specs.Stands.{Env}
use Rattle.micro_sketch.specs.Row.{StandsAt, words_of}
use Rattle.micro_sketch.specs.Rows.{RunsToRaise}
use Rattle.micro_sketch.specs.Operand.{past, two_byte_operand, pool_word, second_pool_word}
use Rattle.call_steps.specs.Entry.{CanEnter, Enters, raises_at}

pub data TableCall : Type 0 where
  Invokevirtual : TableCall
  Invokespecial : TableCall
  Invokeinterface : TableCall

abbrev pub table_code : TableCall → ℕ
table_code Invokevirtual = 182
table_code Invokespecial = 183
table_code Invokeinterface = 185

-- the two words of the pool's entry that the instruction names
abbrev pub first_word : Sketch → ℕ
first_word x = pool_word x (two_byte_operand x)

abbrev pub second_word : Sketch → ℕ
second_word x = second_pool_word x (two_byte_operand x)

-- how many words the arguments take, the receiver among them: in the record of the method, or in the pool's entry
abbrev pub taken_words : TableCall → Sketch → ℕ
taken_words Invokevirtual x = second_word x / 2 ^ 24
taken_words Invokespecial x = slice_index x.memory ((first_word x + 1) % 2 ^ 32) / 2 ^ 16
taken_words Invokeinterface x = second_word x / 2 ^ 24

-- a table of the receiver's type lies where a word of the type says; its word at the place of the pool's entry
abbrev pub table_word : Sketch → (table receiver : ℕ) → ℕ
table_word x k receiver =
    let type = slice_index x.memory receiver in
    let table = slice_index x.memory ((type + k) % 2 ^ 32) in
    slice_index x.memory ((table + second_word x % 2 ^ 24) % 2 ^ 32)

-- the place of the method that is called
abbrev pub method_for : TableCall → Sketch → (receiver : ℕ) → ℕ
method_for Invokevirtual x receiver = table_word x 3 receiver
method_for Invokespecial x receiver = first_word x
method_for Invokeinterface x receiver = table_word x 4 receiver

-- where the instruction ends; that of invokeinterface has two more bytes
abbrev pub behind : TableCall → Sketch → ℕ
behind Invokevirtual x = (past 2 x).jpc
behind Invokespecial x = (past 2 x).jpc
behind Invokeinterface x = (past 4 x).jpc

-- The arguments are on top of the stack, the receiver below the others.
pub record HasReceiver (n : ℕ) (op : TableCall) (x : Sketch) : Type 0 where
  pub upper : List ℕ
  pub receiver : ℕ
  pub others : List ℕ
  pub split : words_of x ≡ upper ++ receiver ∷ others
  pub count : length upper + 1 ≡ taken_words op x
  pub size : n < 2 ^ 32
  pub raise_list : slice_index x.low RAISE_LIST + 8 < 2 ^ 32

-- no method for the receiver: only a table of interface methods may have 0
abbrev pub has_none : TableCall → Sketch → (receiver : ℕ) → Bool
has_none Invokevirtual x receiver = false
has_none Invokespecial x receiver = false
has_none Invokeinterface x receiver = table_word x 4 receiver == 0

-- A receiver that is null raises a NullPointerException.
abbrev pub NullRaises : Type 0
NullRaises = (n : ℕ) (p : CostParams) (op : TableCall) (x : Sketch) (e : Env) (s : MachineState) → StandsAt n p (table_code op) x e s → (c : HasReceiver n op x)
    → c.receiver ≡ 0
    → RunsToRaise n p (table_code op) (raises_at x (past 2 x).jpc 6) x e

-- One whose class has no method there raises an IncompatibleClassChangeError.
abbrev pub ChangeRaises : Type 0
ChangeRaises = (n : ℕ) (p : CostParams) (op : TableCall) (x : Sketch) (e : Env) (s : MachineState) → StandsAt n p (table_code op) x e s
    → (c : HasReceiver n op x)
    → 0 < c.receiver → has_none op x c.receiver ≡ true
    → RunsToRaise n p (table_code op) (raises_at x (past 2 x).jpc 4) x e

-- Else the method is called that is found for it.
abbrev pub TableCallsRun : Type 0
TableCallsRun = (n : ℕ) (p : CostParams) (op : TableCall) (x : Sketch) (e : Env) (s : MachineState) → StandsAt n p (table_code op) x e s
    → (c : HasReceiver n op x)
    → 0 < c.receiver → has_none op x c.receiver ≡ false
    → CanEnter n x (method_for op x c.receiver) (c.upper ++ c.receiver ∷ []) c.others
    → Enters n p (table_code op) x e (method_for op x c.receiver) (behind op x) (c.upper ++ c.receiver ∷ []) c.others
