-- Worked examples of the step.
use Rattle.std.specs.Prelude.{◌≡◌, ℕ, ℤ, pos, negsuc, Bool, true, false, ◌==◌, List, [], ◌∷◌, ◌++◌, length, replicate, Option, Some, None, slice_get}
use Rattle.std.specs.List.{list_any}
use Rattle.bytecode_model.specs.declared.Value.{Value}
use Rattle.bytecode_model.specs.declared.Value.TheVariants.{Int, Long, Ref, Null, Unset}
use Rattle.bytecode_model.specs.declared.Ending.{Ending}
use Rattle.bytecode_model.specs.declared.Ending.TheVariants.{Running, Raising, Ended, Uncaught}
use Rattle.bytecode_model.specs.Lists.{onto}
use Rattle.bytecode_model.specs.Types.{Kind, OfClass, OfNumbers, OfReferences, Numeric, IntType, LongType}
use Rattle.bytecode_model.specs.State.{Object, State}
use Rattle.bytecode_model.specs.Program.{Program, Limits, Method, Body, Handler, Operand, NoOperand, AStatic, AMethod, AType}
use Rattle.bytecode_model.specs.Steps.{step, run_from, boot_state}

-- ---- a sample program: the classes 0 to 4 that the virtual machine knows, the exceptions 5 and 6, the interface 7, the class 8 without it, and the
-- class 9 with it

abbrev pub supertypes : List (List ℕ)
supertypes =
    (0 ∷ []) ∷ (1 ∷ 0 ∷ []) ∷ (2 ∷ 0 ∷ []) ∷ (3 ∷ 1 ∷ 0 ∷ []) ∷ (4 ∷ 1 ∷ 0 ∷ []) ∷ (5 ∷ 4 ∷ 1 ∷ 0 ∷ []) ∷ (6 ∷ 4 ∷ 1 ∷ 0 ∷ []) ∷ (7 ∷ 0 ∷ []) ∷ (8 ∷ 0 ∷ [])
    ∷ (9 ∷ 7 ∷ 0 ∷ []) ∷ []

abbrev pub is_supertype : Option (List ℕ) → ℕ → Bool
is_supertype None d = false
is_supertype (Some cs) d = list_any (λ c. c == d) cs

-- the arrays of numbers have the types 0 to 7, the classes 8 to 17, the arrays of the interface 18, and the arrays of the class without it 19
abbrev pub sample_types : List Kind
sample_types =
    OfNumbers 4 ∷ OfNumbers 5 ∷ OfNumbers 6 ∷ OfNumbers 7 ∷ OfNumbers 8 ∷ OfNumbers 9 ∷ OfNumbers 10 ∷ OfNumbers 11
    ∷ OfClass 0 ∷ OfClass 1 ∷ OfClass 2 ∷ OfClass 3 ∷ OfClass 4 ∷ OfClass 5 ∷ OfClass 6 ∷ OfClass 7 ∷ OfClass 8 ∷ OfClass 9
    ∷ OfReferences (OfClass 7) ∷ OfReferences (OfClass 8) ∷ []

abbrev pub object : (kind : ℕ) → List Value → Object
object kind parts = record { kind = kind; parts = parts }

-- those that instructions raise have the numbers 0 to 8; the first is an instance of class 5
abbrev pub raised : List Object
raised = object 13 (Null ∷ []) ∷ replicate 8 (object 12 (Null ∷ []))

abbrev pub static_method : Body → Method
static_method b = record { owner = 8; has_this = false; is_init = false; parameters = []; result = None; body = Some b }

-- a method of the interface, and the one of class 9 that is selected for it
abbrev pub instance_method : (owner : ℕ) → Option Body → Method
instance_method owner b = record { owner = owner; has_this = true; is_init = false; parameters = []; result = Some (Numeric IntType); body = b }

abbrev pub body : (max_locals max_stack : ℕ) → (code : List ℕ) → List Handler → Body
body max_locals max_stack code handlers = record { max_locals = max_locals; max_stack = max_stack; code = code; handlers = handlers }

abbrev pub selects : ℕ → ℕ → Option ℕ
selects receiver m = elim (receiver == 9) [ true ↦ Some 1 | false ↦ None ]

abbrev pub sample : (methods : List Method) → Operand → Program
sample methods o = record {
  linked = true;
  methods = methods;
  boot = 0;
  operand = λ m pc. o;
  guarded = λ m pc. false;
  types = sample_types;
  extends = λ c d. is_supertype (slice_get supertypes c) d;
  superclass = λ c. None;
  is_interface = λ c. c == 7;
  is_concrete = λ c. true;
  fields = λ c. [];
  statics = Numeric LongType ∷ [];
  first_statics = Long (pos 0) ∷ [];
  first_objects = raised;
  select = selects;
}

abbrev pub ample : Limits
ample = record { frames = 1000; heap = 1000 }

-- ---- one step of method 0, whose code begins with the instruction

abbrev pub methods_with : Body → List Method
methods_with b = static_method b ∷ instance_method 9 (Some (body 1 1 (3 ∷ 172 ∷ []) [])) ∷ instance_method 7 None ∷ []

abbrev pub at_first : (locals operands : List Value) → (made : List Object) → Ending → State
at_first ls ops made mode = record {
  frames = record { method = 0; pc = 0; locals = ls; operands = ops } ∷ [];
  objects = raised ++ made;
  statics = Long (pos 0) ∷ [];
  answers = [];
  output = [];
  mode = mode;
}

abbrev pub next : (code : List ℕ) → Operand → (locals operands : List Value) → (made : List Object) → Option State
next code o ls ops made = step (sample (methods_with (body 4 8 code [])) o) ample None (at_first ls ops made Running)

abbrev pub top_operands : State → List Value
top_operands s = elim s.frames [ [] ↦ [] | f ∷ fs ↦ f.operands ]

abbrev pub top_locals : State → List Value
top_locals s = elim s.frames [ [] ↦ [] | f ∷ fs ↦ f.locals ]

-- the operands that an opcode leaves, the top one first
abbrev pub leaves : (opcode : ℕ) → (operands : List Value) → Option (List Value)
leaves op ops = onto (next (op ∷ []) NoOperand [] ops []) (λ s. Some (top_operands s))

-- the local variables that an opcode leaves
abbrev pub sets : (opcode : ℕ) → (locals operands : List Value) → Option (List Value)
sets op ls ops = onto (next (op ∷ []) NoOperand ls ops []) (λ s. Some (top_locals s))

abbrev pub mode_after : Option State → Option Ending
mode_after s = onto s (λ t. Some t.mode)

abbrev pub operands_after : Option State → Option (List Value)
operands_after s = onto s (λ t. Some (top_operands t))

-- the parts of the object of this number
abbrev pub parts_after : ℕ → Option State → Option (List Value)
parts_after p s = onto s (λ t. onto (slice_get t.objects p) (λ o. Some o.parts))

-- ---- examples

abbrev pub min_int : ℤ
min_int = negsuc 2147483647

abbrev pub max_long : ℤ
max_long = pos 9223372036854775807

abbrev pub min_long : ℤ
min_long = negsuc 9223372036854775807

pub record Arithmetic : Type 0 where
  -- idiv, irem: the least int by −1; −7 by 2
  pub quotient_wraps : leaves 108 (Int (negsuc 0) ∷ Int min_int ∷ []) ≡ Some (Int min_int ∷ [])
  pub remainder_of_min : leaves 112 (Int (negsuc 0) ∷ Int min_int ∷ []) ≡ Some (Int (pos 0) ∷ [])
  pub towards_zero : leaves 108 (Int (pos 2) ∷ Int (negsuc 6) ∷ []) ≡ Some (Int (negsuc 2) ∷ [])
  pub sign_of_dividend : leaves 112 (Int (pos 2) ∷ Int (negsuc 6) ∷ []) ≡ Some (Int (negsuc 0) ∷ [])
  pub zero_divisor : mode_after (next (108 ∷ []) NoOperand [] (Int (pos 0) ∷ Int (pos 1) ∷ []) []) ≡ Some (Raising 0)
  pub zero_divisor_of_remainder : mode_after (next (112 ∷ []) NoOperand [] (Int (pos 0) ∷ Int (pos 1) ∷ []) []) ≡ Some (Raising 0)
  -- isub: the upper operand is taken from the lower one
  pub difference : leaves 100 (Int (pos 1) ∷ Int (pos 5) ∷ []) ≡ Some (Int (pos 4) ∷ [])
  -- ladd, lsub, lneg
  pub long_sum : leaves 97 (Long (pos 1) ∷ Long max_long ∷ []) ≡ Some (Long min_long ∷ [])
  pub long_difference : leaves 101 (Long (pos 1) ∷ Long min_long ∷ []) ≡ Some (Long max_long ∷ [])
  pub long_negated : leaves 117 (Long min_long ∷ []) ≡ Some (Long min_long ∷ [])
  -- lcmp
  pub less : leaves 148 (Long (pos 0) ∷ Long min_long ∷ []) ≡ Some (Int (negsuc 0) ∷ [])
  pub equal : leaves 148 (Long max_long ∷ Long max_long ∷ []) ≡ Some (Int (pos 0) ∷ [])
  pub greater : leaves 148 (Long (negsuc 0) ∷ Long (pos 0) ∷ []) ≡ Some (Int (pos 1) ∷ [])
  -- ishl, ishr, iushr by the low five bits; lshl, lushr by the low six
  pub shift_left : leaves 120 (Int (pos 33) ∷ Int (pos 3) ∷ []) ≡ Some (Int (pos 6) ∷ [])
  pub shift_right : leaves 122 (Int (pos 1) ∷ Int (negsuc 2) ∷ []) ≡ Some (Int (negsuc 1) ∷ [])
  pub shift_right_unsigned : leaves 124 (Int (pos 28) ∷ Int (negsuc 0) ∷ []) ≡ Some (Int (pos 15) ∷ [])
  pub long_shift_left : leaves 121 (Int (pos 64) ∷ Long (pos 1) ∷ []) ≡ Some (Long (pos 1) ∷ [])
  pub long_shift_right_unsigned : leaves 125 (Int (pos 56) ∷ Long min_long ∷ []) ≡ Some (Long (pos 128) ∷ [])
  -- i2b, i2c, i2s, l2i
  pub byte : leaves 145 (Int (pos 200) ∷ []) ≡ Some (Int (negsuc 55) ∷ [])
  pub char : leaves 146 (Int (negsuc 0) ∷ []) ≡ Some (Int (pos 65535) ∷ [])
  pub char_of_more_bits : leaves 146 (Int (pos 65601) ∷ []) ≡ Some (Int (pos 65) ∷ [])
  pub short : leaves 147 (Int (pos 32768) ∷ []) ≡ Some (Int (negsuc 32767) ∷ [])
  pub int : leaves 136 (Long max_long ∷ []) ≡ Some (Int (negsuc 0) ∷ [])

-- a: a value of one word; long: one of two
abbrev pub a : Value
a = Int (pos 1)

abbrev pub b : Value
b = Int (pos 2)

abbrev pub c : Value
c = Int (pos 3)

abbrev pub d : Value
d = Int (pos 4)

abbrev pub l : Value
l = Long (pos 5)

abbrev pub m : Value
m = Long (pos 6)

-- the forms of 6.5.pop to 6.5.swap; none where a Long would be split
pub record StackForms : Type 0 where
  pub pop : leaves 87 (a ∷ b ∷ []) ≡ Some (b ∷ [])
  pub pop_of_long : next (87 ∷ []) NoOperand [] (l ∷ []) [] ≡ None
  pub pop2 : leaves 88 (a ∷ b ∷ c ∷ []) ≡ Some (c ∷ [])
  pub pop2_of_long : leaves 88 (l ∷ c ∷ []) ≡ Some (c ∷ [])
  pub pop2_of_half : next (88 ∷ []) NoOperand [] (a ∷ l ∷ []) [] ≡ None
  pub dup : leaves 89 (a ∷ b ∷ []) ≡ Some (a ∷ a ∷ b ∷ [])
  pub dup_of_long : next (89 ∷ []) NoOperand [] (l ∷ []) [] ≡ None
  pub dup_x1 : leaves 90 (a ∷ b ∷ c ∷ []) ≡ Some (a ∷ b ∷ a ∷ c ∷ [])
  pub dup_x2 : leaves 91 (a ∷ b ∷ c ∷ d ∷ []) ≡ Some (a ∷ b ∷ c ∷ a ∷ d ∷ [])
  pub dup_x2_over_long : leaves 91 (a ∷ l ∷ d ∷ []) ≡ Some (a ∷ l ∷ a ∷ d ∷ [])
  pub dup2 : leaves 92 (a ∷ b ∷ c ∷ []) ≡ Some (a ∷ b ∷ a ∷ b ∷ c ∷ [])
  pub dup2_of_long : leaves 92 (l ∷ c ∷ []) ≡ Some (l ∷ l ∷ c ∷ [])
  pub dup2_x1 : leaves 93 (a ∷ b ∷ c ∷ d ∷ []) ≡ Some (a ∷ b ∷ c ∷ a ∷ b ∷ d ∷ [])
  pub dup2_x1_of_long : leaves 93 (l ∷ c ∷ d ∷ []) ≡ Some (l ∷ c ∷ l ∷ d ∷ [])
  pub dup2_x2 : leaves 94 (a ∷ b ∷ c ∷ d ∷ []) ≡ Some (a ∷ b ∷ c ∷ d ∷ a ∷ b ∷ [])
  pub dup2_x2_of_long : leaves 94 (l ∷ c ∷ d ∷ []) ≡ Some (l ∷ c ∷ d ∷ l ∷ [])
  pub dup2_x2_over_long : leaves 94 (a ∷ b ∷ l ∷ []) ≡ Some (a ∷ b ∷ l ∷ a ∷ b ∷ [])
  pub dup2_x2_of_longs : leaves 94 (l ∷ m ∷ []) ≡ Some (l ∷ m ∷ l ∷ [])
  pub swap : leaves 95 (a ∷ b ∷ c ∷ []) ≡ Some (b ∷ a ∷ c ∷ [])
  pub swap_of_long : next (95 ∷ []) NoOperand [] (a ∷ l ∷ []) [] ≡ None

-- istore_0, istore_1, lstore_0, lstore_1 over Longs and at the end, and lload_0
pub record LocalVariables : Type 0 where
  pub first_half : sets 59 (l ∷ Unset ∷ c ∷ []) (a ∷ []) ≡ Some (a ∷ Unset ∷ c ∷ [])
  pub second_half : sets 60 (l ∷ Unset ∷ c ∷ []) (a ∷ []) ≡ Some (Unset ∷ a ∷ c ∷ [])
  pub long_over_int : sets 63 (a ∷ b ∷ c ∷ []) (l ∷ []) ≡ Some (l ∷ Unset ∷ c ∷ [])
  pub long_over_first_half : sets 63 (a ∷ m ∷ Unset ∷ []) (l ∷ []) ≡ Some (l ∷ Unset ∷ Unset ∷ [])
  pub long_over_second_half : sets 64 (m ∷ Unset ∷ c ∷ []) (l ∷ []) ≡ Some (Unset ∷ l ∷ Unset ∷ [])
  pub past_the_end : next (64 ∷ []) NoOperand (a ∷ b ∷ []) (l ∷ []) [] ≡ None
  pub other_type : next (30 ∷ []) NoOperand (a ∷ b ∷ []) [] [] ≡ None

-- Object 9 is an array, and objects 10 and 11 are instances of the class without the interface and of the one with it.
abbrev pub array_and_instances : (kind : ℕ) → List Value → List Object
array_and_instances kind parts = object kind parts ∷ object 16 [] ∷ object 17 [] ∷ []

abbrev pub storing : Value → (index : ℤ) → Option State
storing v n = next (83 ∷ []) NoOperand [] (v ∷ Int n ∷ Ref 9 ∷ []) (array_and_instances 18 (Null ∷ []))

pub record Arrays : Type 0 where
  -- aastore into an array of the interface
  pub wrong_component : mode_after (storing (Ref 10) (pos 0)) ≡ Some (Raising 2)
  pub array_stays : parts_after 9 (storing (Ref 10) (pos 0)) ≡ Some (Null ∷ [])
  pub component : parts_after 9 (storing (Ref 11) (pos 0)) ≡ Some (Ref 11 ∷ [])
  pub null : mode_after (storing Null (pos 0)) ≡ Some Running
  -- the index is tested before the component, and null before the index
  pub past_the_end : mode_after (storing (Ref 10) (pos 1)) ≡ Some (Raising 1)
  pub negative_index : mode_after (storing (Ref 10) (negsuc 0)) ≡ Some (Raising 1)
  pub no_array : mode_after (next (83 ∷ []) NoOperand [] (Ref 10 ∷ Int (pos 1) ∷ Null ∷ []) []) ≡ Some (Raising 6)
  -- bastore keeps eight bits, and baload brings the sign back
  pub eight_bits : parts_after 9 (next (84 ∷ []) NoOperand [] (Int (pos 456) ∷ Int (pos 0) ∷ Ref 9 ∷ []) (object 4 (a ∷ []) ∷ [])) ≡ Some (Int (negsuc 55) ∷ [])
  pub sign : operands_after (next (51 ∷ []) NoOperand [] (Int (pos 0) ∷ Ref 9 ∷ []) (object 4 (Int (negsuc 55) ∷ []) ∷ [])) ≡ Some (Int (negsuc 55) ∷ [])
  -- castore keeps sixteen bits without a sign
  pub sixteen_bits : parts_after 9 (next (85 ∷ []) NoOperand [] (Int (negsuc 0) ∷ Int (pos 0) ∷ Ref 9 ∷ []) (object 1 (a ∷ []) ∷ [])) ≡ Some
      (Int (pos 65535) ∷ [])

-- newarray of three longs with so many words free
abbrev pub three_longs : (heap : ℕ) → Option State
three_longs heap = step (sample (methods_with (body 4 8 (188 ∷ 11 ∷ []) [])) NoOperand) (record { frames = 1000; heap = heap }) None
    (at_first [] (Int (pos 3) ∷ []) [] Running)

pub record Heap : Type 0 where
  pub fits : parts_after 9 (three_longs 8) ≡ Some (replicate 3 (Long (pos 0)))
  pub reference : operands_after (three_longs 8) ≡ Some (Ref 9 ∷ [])
  pub refused : mode_after (three_longs 7) ≡ Some (Raising 7)
  pub negative : mode_after (next (188 ∷ 11 ∷ []) NoOperand [] (Int (negsuc 0) ∷ []) []) ≡ Some (Raising 5)

-- checkcast and instanceof of the interface
pub record Casts : Type 0 where
  pub cast_of_null : operands_after (next (192 ∷ 0 ∷ 0 ∷ []) (AType (OfClass 7)) [] (Null ∷ []) []) ≡ Some (Null ∷ [])
  pub cast : operands_after (next (192 ∷ 0 ∷ 0 ∷ []) (AType (OfClass 7)) [] (Ref 11 ∷ []) (array_and_instances 18 [])) ≡ Some (Ref 11 ∷ [])
  pub wrong_cast : mode_after (next (192 ∷ 0 ∷ 0 ∷ []) (AType (OfClass 7)) [] (Ref 10 ∷ []) (array_and_instances 18 [])) ≡ Some (Raising 3)
  pub test_of_null : operands_after (next (193 ∷ 0 ∷ 0 ∷ []) (AType (OfClass 7)) [] (Null ∷ []) []) ≡ Some (Int (pos 0) ∷ [])
  pub test : operands_after (next (193 ∷ 0 ∷ 0 ∷ []) (AType (OfClass 7)) [] (Ref 11 ∷ []) (array_and_instances 18 [])) ≡ Some (Int (pos 1) ∷ [])
  -- an array of the class without the interface is no array of the interface
  pub array : operands_after (next (193 ∷ 0 ∷ 0 ∷ []) (AType (OfReferences (OfClass 7))) [] (Ref 9 ∷ []) (array_and_instances 19 [])) ≡ Some (Int (pos 0) ∷ [])
  -- athrow of null
  pub throw_of_null : mode_after (next (191 ∷ []) NoOperand [] (Null ∷ []) []) ≡ Some (Raising 6)

-- aaload from an array of the class without the interface, and invokeinterface of the interface's method on what it gives
abbrev pub element_call : Value → ℕ → State
element_call element steps =
    run_from (sample (methods_with (body 4 8 (50 ∷ 185 ∷ 0 ∷ 0 ∷ 1 ∷ 0 ∷ []) [])) (AMethod 7 2)) ample (λ k. None)
    (at_first [] (Int (pos 0) ∷ Ref 9 ∷ []) (array_and_instances 19 (element ∷ [])) Running) steps

pub record InterfaceCalls : Type 0 where
  pub without : (element_call (Ref 10) 2).mode ≡ Raising 4
  pub with : top_locals (element_call (Ref 11) 2) ≡ Ref 11 ∷ []
  pub selected : onto (slice_get (element_call (Ref 11) 2).frames 0) (λ f. Some f.method) ≡ Some 1
  pub of_null : (element_call Null 2).mode ≡ Raising 6

abbrev pub handler : (start end target : ℕ) → Option Kind → Handler
handler start end target caught = record { start = start; end = end; target = target; caught = caught }

-- an ArithmeticException at place 2, with a frame alone
abbrev pub caught_by : List Handler → Option State
caught_by handlers =
    step (sample (static_method (body 0 1 (0 ∷ 0 ∷ 0 ∷ 0 ∷ []) handlers) ∷ []) NoOperand) ample None
    (record (at_first [] [] [] (Raising 0)) { frames = record { method = 0; pc = 2; locals = []; operands = [] } ∷ [] })

abbrev pub place_after : Option State → Option ℕ
place_after s = onto s (λ t. onto (slice_get t.frames 0) (λ f. Some f.pc))

pub record Handlers : Type 0 where
  -- the second of three catches it, and so does the third
  pub first_that_fits : place_after (caught_by (handler 0 4 10 (Some (OfClass 6)) ∷ handler 0 4 20 (Some (OfClass 5)) ∷ handler 0 4 30 None ∷ [])) ≡ Some 20
  pub superclass : place_after (caught_by (handler 0 2 10 None ∷ handler 3 4 20 None ∷ handler 2 3 30 (Some (OfClass 4)) ∷ [])) ≡ Some 30
  pub object_alone : operands_after (caught_by (handler 0 4 10 None ∷ [])) ≡ Some (Ref 0 ∷ [])
  pub none : mode_after (caught_by (handler 0 2 10 None ∷ handler 3 4 20 None ∷ handler 0 4 30 (Some (OfClass 6)) ∷ [])) ≡ Some (Uncaught 5)

-- boot calls main, main calls a method, which calls itself; each names its callee by its own number
abbrev pub endless : (main_stack : ℕ) → Program
endless main_stack = record (sample (static_method (body 0 1 (184 ∷ 0 ∷ 0 ∷ 177 ∷ []) []) ∷ static_method (body 2 main_stack (184 ∷ 0 ∷ 0 ∷ 177 ∷ []) [])
    ∷ static_method (body 0 2 (184 ∷ 0 ∷ 0 ∷ 177 ∷ []) []) ∷ []) NoOperand) {
      operand = λ m pc. AMethod 8 (elim (m == 0) [ true ↦ 1 | false ↦ 2 ]);
    }

abbrev pub deep : (main_stack : ℕ) → (steps : ℕ) → Option State
deep main_stack steps =
    onto (boot_state (endless main_stack)) (λ s. Some (run_from (endless main_stack) (record { frames = 176; heap = 0 }) (λ k. None) s steps))

abbrev pub depth_after : Option State → Option ℕ
depth_after s = onto s (λ t. Some (length t.frames))

-- boot's frame has 6 words, main's 9 or 10, and that of the method that calls itself 7; there is room for 176
pub record Frames : Type 0 where
  pub fit : depth_after (deep 2 24) ≡ Some 25
  pub go_on : mode_after (deep 2 24) ≡ Some Running
  pub one_more : mode_after (deep 2 25) ≡ Some (Raising 8)
  pub as_deep : depth_after (deep 2 25) ≡ Some 25
  pub earlier : mode_after (deep 3 24) ≡ Some (Raising 8)

-- the input's byte and its end, the output's low eight bits, and a branch to before the code
pub record Rest : Type 0 where
  pub byte : operands_after (step (sample (methods_with (body 0 1 (254 ∷ []) [])) NoOperand) ample (Some 200) (at_first [] [] [] Running)) ≡ Some
      (Int (pos 200) ∷ [])
  pub end : leaves 254 [] ≡ Some (Int (negsuc 0) ∷ [])
  pub output : onto (next (255 ∷ []) NoOperand [] (Int (negsuc 0) ∷ []) []) (λ s. Some s.output) ≡ Some (255 ∷ [])
  pub output_of_more_bits : onto (next (255 ∷ []) NoOperand [] (Int (pos 300) ∷ []) []) (λ s. Some s.output) ≡ Some (44 ∷ [])
  pub before_the_code : next (167 ∷ 255 ∷ 255 ∷ []) NoOperand [] [] [] ≡ None
  pub negative_pairs : next (171 ∷ 0 ∷ 0 ∷ 0 ∷ 0 ∷ 0 ∷ 0 ∷ 0 ∷ 255 ∷ 255 ∷ 255 ∷ 255 ∷ []) NoOperand [] (a ∷ []) [] ≡ None
  pub boot_returns : mode_after (next (177 ∷ []) NoOperand [] [] []) ≡ Some Ended
  pub long_static : onto (next (179 ∷ 0 ∷ 0 ∷ []) (AStatic 0) [] (l ∷ []) []) (λ s. Some s.statics) ≡ Some (l ∷ [])
  pub int_into_long_static : next (179 ∷ 0 ∷ 0 ∷ []) (AStatic 0) [] (a ∷ []) [] ≡ None
  -- wide istore 256 has no such local variable, and wide iinc 1 −300 has one
  pub wide_store : next (196 ∷ 54 ∷ 1 ∷ 0 ∷ []) NoOperand (a ∷ b ∷ []) (a ∷ []) [] ≡ None
  pub wide_increment : onto (next (196 ∷ 132 ∷ 0 ∷ 1 ∷ 254 ∷ 212 ∷ []) NoOperand (a ∷ b ∷ []) [] []) (λ s. Some (top_locals s)) ≡ Some
      (a ∷ Int (negsuc 297) ∷ [])

pub record WorkedExamples : Type 0 where
  pub arithmetic : Arithmetic
  pub stack : StackForms
  pub locals : LocalVariables
  pub arrays : Arrays
  pub heap : Heap
  pub casts : Casts
  pub interface_calls : InterfaceCalls
  pub handlers : Handlers
  pub frames : Frames
  pub rest : Rest
