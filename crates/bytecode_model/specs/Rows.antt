-- What an instruction does, once it is decoded and its operands are resolved.
use Rattle.std.specs.Prelude.{ℕ, ℤ, Bool, List, [], ◌∷◌, Option}
use Rattle.opcodes.specs.declared.instruction.Case.{Case}
use Rattle.bytecode_model.specs.declared.Value.{Value}
use Rattle.bytecode_model.specs.Types.{NumberType, Kind, Moved}

-- functions of so many numbers
abbrev pub FunctionOf : List NumberType → Type 0 → Type 0
FunctionOf [] R = R
FunctionOf (t ∷ ts) R = ℤ → FunctionOf ts R

-- how many words an item of the operand stack takes
pub data Width : Type 0 where
  Zero : Width
  One : Width
  Two : Width

pub data StackForm : Type 0 where
  Drop : StackForm
  Copy : StackForm
  Swap : StackForm

-- Offsets of branches count from the instruction's own place. The numbers that are taken come from the operand stack, the topmost first.
pub data Row : Type 0 where
  Nothing : Row
  Push : Value → Row
  -- a number of those taken; where there is none, an ArithmeticException
  Compute : (taken : List NumberType) → (given : NumberType) → FunctionOf taken (Option ℤ) → Row
  -- to the offset where the test holds
  Branch : (taken : List NumberType) → FunctionOf taken Bool → (offset : ℤ) → Row
  -- where two references are the same, or aren't
  BranchSame : (wanted : Bool) → (offset : ℤ) → Row
  -- where a reference is null, or isn't
  BranchNull : (wanted : Bool) → (offset : ℤ) → Row
  Jump : (offset : ℤ) → Row
  -- to the offset of the first case with the key
  Switch : (default : ℤ) → (cases : List Case) → Row
  Load : Moved → (local : ℕ) → Row
  Store : Moved → (local : ℕ) → Row
  -- a number is added to a local variable
  Increment : (local : ℕ) → ℤ → Row
  -- the topmost words are dropped, copied below the words under them, or exchanged with these
  Shuffle : StackForm → (upper lower : Width) → Row
  GetStatic : (field : ℕ) → Row
  PutStatic : (field : ℕ) → Row
  GetField : (named owner index : ℕ) → Row
  PutField : (named owner index : ℕ) → Row
  New : (class : ℕ) → Row
  NewNumbers : (code : ℕ) → Row
  NewReferences : (component : Kind) → Row
  Length : Row
  -- of an array of one of these array type codes
  LoadNumber : NumberType → (codes : List ℕ) → Row
  -- the same, with what the array keeps of a number
  StoreNumber : NumberType → (codes : List ℕ) → (ℤ → ℤ) → Row
  LoadReference : Row
  StoreReference : Row
  Cast : Kind → Row
  Test : Kind → Row
  Monitor : Row
  Throw : Row
  CallStatic : (method : ℕ) → Row
  CallSpecial : (named method : ℕ) → Row
  CallVirtual : (named method : ℕ) → Row
  CallInterface : (named method : ℕ) → Row
  Return : Option Moved → Row
  -- the next byte of the input, or −1 at its end
  Read : Row
  -- the low eight bits are put out
  Write : Row
