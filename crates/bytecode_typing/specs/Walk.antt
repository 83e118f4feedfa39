-- The check of a method from its first instruction to its last, with the place and the rule that fail first: JVM Specification SE 8, 4.10.1.6.
use Rattle.std.specs.Prelude.{ℕ, ◌+◌, ◌==◌, Bool, true, false, not, ◌&&◌, ◌||◌, nat_le, nat_lt, if◌then◌else◌, List, [], ◌∷◌, ◌++◌, length, map, sum_by, Option}
use Rattle.std.specs.Prelude.{Some, None, ℤ, pos, int_le, int_lt, slice_index, slice_get}
use Rattle.std.specs.List.{list_all}
use Rattle.opcodes.specs.declared.instruction.Instr.{Instr}
use Rattle.opcodes.specs.declared.instruction.Case.{Case}
use Rattle.opcodes.specs.Start.{starts_of}
use Rattle.bytecode_model.specs.Lists.{onto}
use Rattle.bytecode_model.specs.Types.{Kind, OfClass}
use Rattle.bytecode_model.specs.Program.{Program, Method, Body, Handler, instr_at, throwable_class, object_class}
use Rattle.bytecode_model.specs.Rows as rows
use Rattle.bytecode_model.specs.Rows.{Row}
use Rattle.bytecode_model.specs.Table.{row_of}
use Rattle.bytecode_model.specs.Slots.{spread, padded}
use Rattle.bytecode_model.specs.Steps.{taken_types}
use Rattle.bytecode_typing.specs.Types.{VarType, Top, UninitializedThis, ReferenceTo, TypeFrame, is_long_type, type_words, type_of, stack_words}
use Rattle.bytecode_typing.specs.Assignable.{is_assignable_kind, flows_to}
use Rattle.bytecode_typing.specs.Rules as rule
use Rattle.bytecode_typing.specs.Rules.{Rule, Checked, Fails, Leaves}
use Rattle.bytecode_typing.specs.Checks.{row_check}

-- ---- the first frame (4.10.1.6, methodInitialStackFrame)

-- an `<init>` begins with `this` uninitialised, that of Object excepted
abbrev pub begins_uninitialized : Method → Bool
begins_uninitialized m = m.has_this && (m.is_init && not (m.owner == object_class))

abbrev pub this_types : Method → List VarType
this_types m = if m.has_this then (if m.is_init && not (m.owner == object_class) then UninitializedThis else ReferenceTo (OfClass m.owner)) ∷ [] else []

-- `this`, the arguments and then Top; none where they pass the method's local variables
abbrev pub first_types : Method → Body → Option TypeFrame
first_types m b =
    onto (padded Top b.max_locals (spread is_long_type Top (this_types m ++ map type_of m.parameters)))
    (λ ls. Some (record { locals = ls; stack = []; flag = begins_uninitialized m }))

-- ---- one instruction

-- what is found of an instruction: the first rule that fails, or the frames before it and behind it
pub data Verdict : Type 0 where
  Breaks : Rule → Verdict
  Passes : (frame : TypeFrame) → (after : Option TypeFrame) → Verdict

abbrev pub unless_broken : Bool → Rule → Verdict → Verdict
unless_broken true r v = v
unless_broken false r v = Breaks r

abbrev pub on_frame : Option TypeFrame → Rule → (TypeFrame → Verdict) → Verdict
on_frame None r go = Breaks r
on_frame (Some f) r go = go f

-- the frame of the StackMapTable, and else the one that falls in
abbrev pub incoming : (map falling : Option TypeFrame) → Option TypeFrame
incoming None falling = falling
incoming (Some f) falling = Some f

-- the frame that falls in, if one does, is assignable to that of the StackMapTable, if there is one
abbrev pub merges : Program → (map falling : Option TypeFrame) → Bool
merges P None falling = true
merges P (Some f) None = true
merges P (Some f) (Some g) = flows_to P g (Some f)

-- control goes on behind the instruction; one whose operand is out of its form has an opcode that does
abbrev pub falls_through : Option Row → Bool
falls_through (Some (rows.Jump offset)) = false
falls_through (Some (rows.Switch default cases)) = false
falls_through (Some rows.Throw) = false
falls_through (Some (rows.Return given)) = false
falls_through r = true

abbrev pub rises_from : ℤ → List Case → Bool
rises_from key [] = true
rises_from key (c ∷ cs) = int_lt key c.key && rises_from c.key cs

abbrev pub keys_rise : List Case → Bool
keys_rise [] = true
keys_rise (c ∷ cs) = rises_from c.key cs

-- the words of a method's arguments, `this` counted
abbrev pub argument_words : Method → ℕ
argument_words k = sum_by type_words (map type_of (taken_types k))

abbrev pub has_words : Option Method → ℤ → Bool
has_words None n = false
has_words (Some k) n = int_le (pos (argument_words k)) n && int_le n (pos (argument_words k))

-- what a row doesn't keep of its instruction (4.9.1): a `tableswitch` has a range, and the keys rise;
-- `invokeinterface` has the number of argument words and then a zero
abbrev pub is_formed : Program → (code : List ℕ) → (pc : ℕ) → Instr → Row → Bool
is_formed P code pc i (rows.Switch default cases) = (not (i.op == 170) || nat_lt 0 i.count) && keys_rise cases
is_formed P code pc i (rows.CallInterface named c) = has_words (slice_get P.methods c) i.second && slice_index code (pc + 4) == 0
is_formed P code pc i r = true

-- no deeper than the method's operand stack
abbrev pub has_room : Body → Option TypeFrame → Bool
has_room b None = true
has_room b (Some g) = nat_le (stack_words g.stack) b.max_stack

abbrev pub caught_kind : Option Kind → Kind
caught_kind None = OfClass throwable_class
caught_kind (Some k) = k

abbrev pub is_throwable : Program → Option Kind → Bool
is_throwable P None = true
is_throwable P (Some k) = is_assignable_kind P k (OfClass throwable_class)

abbrev pub covers : (pc : ℕ) → Handler → Bool
covers pc h = nat_le h.start pc && nat_lt pc h.end

-- what the handler catches is a Throwable, and it takes the local variables with that alone on the stack (4.10.1.6, handlerIsLegal and
-- instructionSatisfiesHandlers)
abbrev pub is_handled : Program → (frames : ℕ → Option TypeFrame) → TypeFrame → Handler → Bool
is_handled P frames f h =
    is_throwable P h.caught && flows_to P (record f { stack = ReferenceTo (caught_kind h.caught) ∷ [] }) (frames h.target)

-- so does each that covers the place
abbrev pub handlers_hold : Program → (frames : ℕ → Option TypeFrame) → (pc : ℕ) → TypeFrame → List Handler → Bool
handlers_hold P frames pc f hs = list_all (λ h. if covers pc h then is_handled P frames f h else true) hs

module _ (P : Program) (n : ℕ) (m : Method) (b : Body) (frames : ℕ → Option TypeFrame) (pc : ℕ) (f : TypeFrame) where
  -- the rules behind those on operands and stack, in their order
  abbrev pub settled : Checked → Verdict
  settled (Fails r) = Breaks r
  settled (Leaves after access init target) =
      unless_broken (has_room b after) rule.Stack
      (unless_broken access rule.Access
      (unless_broken init rule.Init
      (unless_broken target rule.Target
      (unless_broken (handlers_hold P frames pc f b.handlers) rule.Handled (Passes f after)))))

  abbrev pub on_row : Instr → Option Row → Verdict
  on_row i None = Breaks rule.Operand
  on_row i (Some r) = unless_broken (is_formed P b.code pc i r) rule.Operand (settled (row_check P n m b frames pc f r))

-- Method m, of number n, with its body, and the frames that its StackMapTable gives by place.
module _ (P : Program) (n : ℕ) (m : Method) (b : Body) (maps : ℕ → Option TypeFrame) where
  -- an instruction with the frame before it: flow, then merge, then the rest; a `lookupswitch` (171) doesn't fall through, whatever its number of pairs
  abbrev pub instruction_verdict : (pc : ℕ) → Instr → (falling : Option TypeFrame) → TypeFrame → Verdict
  instruction_verdict pc i falling f =
      let row = row_of b.code i (P.operand n pc) in
      unless_broken (i.op == 171 || not (falls_through row) || nat_lt (pc + i.length) (length b.code)) rule.Flow
      (unless_broken (merges P (maps pc) falling) rule.Merge
      (on_row P n m b maps pc f i row))

  -- at a place where no whole instruction begins, rule `opcode` has failed before these
  abbrev pub on_instr : (pc : ℕ) → Option Instr → (falling : Option TypeFrame) → TypeFrame → Verdict
  on_instr pc None falling f = Breaks rule.Operand
  on_instr pc (Some i) falling f = instruction_verdict pc i falling f

  -- the place pc, into which the frame `falling` falls, if one does
  abbrev pub verdict_at : (pc : ℕ) → (falling : Option TypeFrame) → Verdict
  verdict_at pc falling = on_frame (incoming (maps pc) falling) rule.Flow (λ f. on_instr pc (instr_at P n pc) falling f)

-- what a walk finds: the first place and rule that fail, or the frame before each instruction
pub data Walked : Type 0 where
  Failed : (pc : ℕ) → Rule → Walked
  Frames : List (ℕ × TypeFrame) → Walked

abbrev pub with_frame : (pc : ℕ) → TypeFrame → Walked → Walked
with_frame pc f (Failed place r) = Failed place r
with_frame pc f (Frames fs) = Frames ((pc, f) ∷ fs)

abbrev pub unless_failed : (pc : ℕ) → Verdict → (Option TypeFrame → Walked) → Walked
unless_failed pc (Breaks r) go = Failed pc r
unless_failed pc (Passes f after) go = with_frame pc f (go after)

module _ (P : Program) (n : ℕ) (m : Method) (b : Body) (maps : ℕ → Option TypeFrame) where
  -- the instructions that begin at these places, one after another
  abbrev pub walk : List ℕ → (falling : Option TypeFrame) → Walked
  walk [] falling = Frames []
  walk (pc ∷ pcs) falling = unless_failed pc (verdict_at P n m b maps pc falling) (λ after. walk pcs after)

  -- the whole method
  abbrev pub walked : Walked
  walked = walk (starts_of b.code) (first_types m b)
