-- The step of a state, and runs (JVM Specification SE 8, 2.6, 2.10 and 2.11).
use Rattle.std.specs.Prelude.{ℕ, zero, suc, ◌+◌, Bool, true, false, ◌&&◌, nat_le, nat_lt, if◌then◌else◌, List, [], ◌∷◌, ◌++◌, length, map, Option, Some, None}
use Rattle.std.specs.Prelude.{pos, negsuc, slice_get}
use Rattle.bytecode_model.specs.declared.Value.{Value}
use Rattle.bytecode_model.specs.declared.Value.TheVariants.{Int, Ref, Unset}
use Rattle.bytecode_model.specs.declared.Ending.{Ending}
use Rattle.bytecode_model.specs.declared.Ending.TheVariants.{Running, Raising, Ended, Uncaught}
use Rattle.bytecode_model.specs.Lists.{onto, replaced}
use Rattle.bytecode_model.specs.Types.{Kind, OfClass, Declared, Reference, suits, is_long, default}
use Rattle.bytecode_model.specs.State.{Object, Frame, State}
use Rattle.bytecode_model.specs.Program.{Program, Limits, Method, Handler, body_of, instr_at, kind_of, is_of}
use Rattle.bytecode_model.specs.Rows.{Row}
use Rattle.bytecode_model.specs.Slots.{spread, padded}
use Rattle.bytecode_model.specs.Table.{row_of}
use Rattle.bytecode_model.specs.Sizes.{frames_words}
use Rattle.bytecode_model.specs.Effects.{Effect, Stuck, Go, Make, WritePart, WriteStatic, Take, Give, Call, Leave, Raise, effect, fault_object}
use Rattle.bytecode_model.specs.Effects.{StackOverflowError}

-- ---- entering a method and leaving it (2.6)

-- the types of what a method takes, `this` first
abbrev pub taken_types : Method → List Declared
taken_types k = if k.has_this then Reference (OfClass k.owner) ∷ k.parameters else k.parameters

abbrev pub all_suit : List Declared → List Value → Bool
all_suit [] [] = true
all_suit (d ∷ ds) (v ∷ vs) = suits d v && all_suit ds vs
all_suit ds vs = false

-- the frame with which a method begins
abbrev pub first_frame : Program → (method : ℕ) → (arguments : List Value) → Option Frame
first_frame P m args =
    onto (slice_get P.methods m) (λ k. onto k.body (λ b.
    if all_suit (taken_types k) args then onto (padded Unset b.max_locals (spread is_long Unset args))
    (λ ls. Some (record { method = m; pc = 0; locals = ls; operands = [] }))
    else None))

abbrev pub with_top : State → (callers : List Frame) → Frame → State
with_top s callers f = record s { frames = f ∷ callers; mode = Running }

-- while an object is raised, the top frame has no operands
abbrev pub raising : State → Frame → (callers : List Frame) → (object : ℕ) → State
raising s f callers p = record s { frames = record f { operands = [] } ∷ callers; mode = Raising p }

-- a method is entered where its frame fits with the others; else its caller raises
abbrev pub called : Program → Limits → State → Frame → (callers : List Frame) → Frame → State
called P limits s f callers g =
    if nat_le (frames_words P (g ∷ f ∷ callers)) limits.frames then with_top s (f ∷ callers) g else raising s f callers (fault_object StackOverflowError)

abbrev pub with_result : Option Value → List Value → List Value
with_result None ops = ops
with_result (Some v) ops = v ∷ ops

-- a caller goes on behind its invoke instruction with the result
abbrev pub resumed : Program → Frame → (result : Option Value) → Option Frame
resumed P c result = onto (instr_at P c.method c.pc) (λ i. Some (record c { pc = c.pc + i.length; operands = with_result result c.operands }))

-- the top frame is left; boot's, which has no result, stays
abbrev pub left : Program → State → Frame → (result : Option Value) → (callers : List Frame) → Option State
left P s f None [] = Some (record s { frames = f ∷ []; mode = Ended })
left P s f (Some v) [] = None
left P s f result (c ∷ callers) = onto (resumed P c result) (λ d. Some (with_top s callers d))

-- ---- running

-- a field or an element is written
abbrev pub written : List Object → (object part : ℕ) → Value → Option (List Object)
written os p k v = onto (slice_get os p) (λ o. onto (replaced o.parts k v) (λ ps. replaced os p (record o { parts = ps })))

-- the int for what the input answers: a byte, or −1 at its end
abbrev pub answered : Option ℕ → Value
answered None = Int (negsuc 0)
answered (Some byte) = Int (pos byte)

abbrev pub applied : Program → Limits → (answer : Option ℕ) → State → Frame → (callers : List Frame) → Effect → Option State
applied P limits answer s f callers Stuck = None
applied P limits answer s f callers (Go pc ls ops) = Some (with_top s callers (record f { pc = pc; locals = ls; operands = ops }))
applied P limits answer s f callers (Make o pc ls ops) =
    Some (with_top (record s { objects = s.objects ++ o ∷ [] }) callers (record f { pc = pc; locals = ls; operands = Ref (length s.objects) ∷ ops }))
applied P limits answer s f callers (WritePart p k v pc ls ops) =
    onto (written s.objects p k v) (λ os. Some (with_top (record s { objects = os }) callers (record f { pc = pc; locals = ls; operands = ops })))
applied P limits answer s f callers (WriteStatic k v pc ls ops) =
    onto (replaced s.statics k v) (λ vs. Some (with_top (record s { statics = vs }) callers (record f { pc = pc; locals = ls; operands = ops })))
applied P limits answer s f callers (Take pc ls ops) =
    Some (with_top (record s { answers = s.answers ++ answer ∷ [] }) callers (record f { pc = pc; locals = ls; operands = answered answer ∷ ops }))
applied P limits answer s f callers (Give byte pc ls ops) =
    Some (with_top (record s { output = s.output ++ byte ∷ [] }) callers (record f { pc = pc; locals = ls; operands = ops }))
applied P limits answer s f callers (Call m args ops) = onto (first_frame P m args) (λ g. Some (called P limits s (record f { operands = ops }) callers g))
applied P limits answer s f callers (Leave result) = left P s f result callers
applied P limits answer s f callers (Raise p) = Some (raising s f callers p)

-- the place behind the instruction at a place of a method, and its row
abbrev pub row_in : Program → (method pc : ℕ) → Option (ℕ × Row)
row_in P m pc = onto (body_of P m) (λ b. onto (instr_at P m pc) (λ i. onto (row_of b.code i (P.operand m pc)) (λ r. Some (pc + i.length, r))))

abbrev pub row_at : Program → Frame → Option (ℕ × Row)
row_at P f = row_in P f.method f.pc

-- ---- raising (2.10)

-- an entry of the exception table that covers the place and catches objects of the kind
abbrev pub catches : Program → Kind → (pc : ℕ) → Handler → Bool
catches P k pc h = nat_le h.start pc && nat_lt pc h.end && elim h.caught [ None ↦ true | Some l ↦ is_of P k l ]

-- the place of the first handler that does
abbrev pub handler_for : Program → Kind → (pc : ℕ) → List Handler → Option ℕ
handler_for P k pc [] = None
handler_for P k pc (h ∷ hs) = if catches P k pc h then Some h.target else handler_for P k pc hs

-- the class of an object that isn't an array
abbrev pub class_of : Kind → Option ℕ
class_of (OfClass c) = Some c
class_of k = None

-- The handler is entered with the object alone. Without one the frame is dropped and its caller raises; boot's frame stays.
abbrev pub unwound : State → (object : ℕ) → Kind → Frame → (callers : List Frame) → (handler : Option ℕ) → Option State
unwound s p k f callers (Some target) = Some (with_top s callers (record f { pc = target; operands = Ref p ∷ [] }))
unwound s p k f (c ∷ callers) None = Some (raising s c callers p)
unwound s p k f [] None = onto (class_of k) (λ c. Some (record s { frames = f ∷ []; mode = Uncaught c }))

-- ---- the step

abbrev pub step_in : Program → Limits → (answer : Option ℕ) → State → List Frame → Ending → Option State
step_in P limits answer s (f ∷ callers) Running = onto (row_at P f) (λ x. applied P limits answer s f callers (effect P limits s f x.0 x.1))
step_in P limits answer s (f ∷ callers) (Raising p) =
    onto (body_of P f.method) (λ b. onto (slice_get s.objects p) (λ o. onto (kind_of P o) (λ k. unwound s p k f callers (handler_for P k f.pc b.handlers))))
step_in P limits answer s fs mode = None

-- The next state; where the instruction asks the input, it gets the answer. There is none where the state has ended, and else only where no typed
-- program comes.
abbrev pub step : Program → Limits → (answer : Option ℕ) → State → Option State
step P limits answer s = step_in P limits answer s s.frames s.mode

-- ---- runs

-- the boot state: the first frame of boot, whose parameters, if it has any, begin as fields do
abbrev pub boot_state : Program → Option State
boot_state P =
    onto (slice_get P.methods P.boot) (λ k. onto (first_frame P P.boot (map default k.parameters)) (λ f.
    Some (record { frames = f ∷ []; objects = P.first_objects; statics = P.first_statics; answers = []; output = []; mode = Running })))

-- the state after so many steps, where the k-th question to the input gets answer k; a state without a step stays
unfoldable pub run_from : Program → Limits → (input : ℕ → Option ℕ) → State → ℕ → State
run_from P limits input s zero = s
run_from P limits input s (suc n) =
    let t = run_from P limits input s n in
    elim (step P limits (input (length t.answers)) t) [ None ↦ t | Some u ↦ u ]
