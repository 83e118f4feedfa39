-- Worked out by hand: one small code for each rule, with the place at which it fails first, and a code that keeps all rules.
use Rattle.std.specs.Prelude.{◌≡◌, ℕ, ◌==◌, ◌||◌, ◌&&◌, Bool, true, false, if◌then◌else◌, List, [], ◌∷◌, Option, Some, None}
use Rattle.bytecode_model.specs.Types.{IntType, OfClass, Declared, Numeric, Reference}
use Rattle.bytecode_model.specs.Program.{Program, Method, Body, Handler, AField, object_class, serializable_class, cloneable_class}
use Rattle.bytecode_typing.specs.Types.{VarType, Top, Integer, ReferenceTo, TypeFrame}
use Rattle.bytecode_typing.specs.Rules as rule
use Rattle.bytecode_typing.specs.Walk.{Walked, Failed, Frames, walked}

-- a class, a subclass of it in another package, and the field of the first, which is protected
abbrev pub shape_class : ℕ
shape_class = 5

abbrev pub circle_class : ℕ
circle_class = 6

abbrev pub example_program : Method → Program
example_program m = record {
  linked = true;
  methods = m ∷ [];
  boot = 0;
  operand = λ n pc. AField shape_class shape_class 0;
  guarded = λ n pc. true;
  types = [];
  extends = λ c d. c == d || d == object_class || (c == circle_class && d == shape_class);
  superclass = λ c. if c == circle_class then Some shape_class else if c == object_class then None else Some object_class;
  is_interface = λ c. c == serializable_class || c == cloneable_class;
  is_concrete = λ c. true;
  fields = λ c. if c == shape_class || c == circle_class then Numeric IntType ∷ [] else [];
  statics = [];
  first_statics = [];
  first_objects = [];
  select = λ c n. None;
}

-- a method of the subclass with two local variables, two operand words and this code
abbrev pub example_body : (code : List ℕ) → List Handler → Body
example_body code handlers = record { max_locals = 2; max_stack = 2; code = code; handlers = handlers }

abbrev pub example_method : (has_this is_init : Bool) → List Declared → Body → Method
example_method has_this is_init parameters b =
    record { owner = circle_class; has_this = has_this; is_init = is_init; parameters = parameters; result = None; body = Some b }

abbrev pub checked_method : (has_this is_init : Bool) → List Declared → (code : List ℕ) → List Handler → (maps : ℕ → Option TypeFrame) → Walked
checked_method has_this is_init parameters code handlers maps =
    let b = example_body code handlers in let m = example_method has_this is_init parameters b in walked (example_program m) 0 m b maps

-- a class method without parameters, handlers and StackMapTable
abbrev pub checked_code : (code : List ℕ) → Walked
checked_code code = checked_method false false [] code [] (λ pc. None)

abbrev pub types_at : (place : ℕ) → TypeFrame → ℕ → Option TypeFrame
types_at place f pc = if pc == place then Some f else None

abbrev pub plain_frame : (stack : List VarType) → TypeFrame
plain_frame st = record { locals = Top ∷ Top ∷ []; stack = st; flag = false }

pub record RulesFailFirst : Type 0 where
  -- return; return: nothing falls to the second
  pub flow : checked_code (177 ∷ 177 ∷ []) ≡ Failed 1 rule.Flow
  -- nop, at the end of the code
  pub past_the_end : checked_code (0 ∷ []) ≡ Failed 0 rule.Flow
  -- iconst_0; return, where the StackMapTable has an int as first local variable
  pub merge : checked_method false false [] (3 ∷ 177 ∷ []) []
      (types_at 1 (record { locals = Integer ∷ Top ∷ []; stack = Integer ∷ []; flag = false })) ≡ Failed 1 rule.Merge
  -- iload 2, of two local variables
  pub operand : checked_code (21 ∷ 2 ∷ 177 ∷ []) ≡ Failed 0 rule.Operand
  -- lconst_0; pop: half a long
  pub stack : checked_code (9 ∷ 87 ∷ 177 ∷ []) ≡ Failed 1 rule.Stack
  -- lconst_0; iconst_0: three words
  pub depth : checked_code (9 ∷ 3 ∷ 177 ∷ []) ≡ Failed 1 rule.Stack
  -- aload_0; getfield of the protected field through the class of the other package
  pub access : checked_method false false (Reference (OfClass shape_class) ∷ []) (42 ∷ 180 ∷ 0 ∷ 1 ∷ 177 ∷ []) [] (λ pc. None) ≡ Failed 1 rule.Access
  -- the same through the current class
  pub own_class : checked_method false false (Reference (OfClass circle_class) ∷ []) (42 ∷ 180 ∷ 0 ∷ 1 ∷ 87 ∷ 177 ∷ []) [] (λ pc. None)
      ≡ (let ls = ReferenceTo (OfClass circle_class) ∷ Top ∷ [] in
      Frames ((0, record { locals = ls; stack = []; flag = false }) ∷ (1, record { locals = ls; stack = ReferenceTo (OfClass circle_class) ∷ []; flag = false })
      ∷ (4, record { locals = ls; stack = Integer ∷ []; flag = false }) ∷ (5, record { locals = ls; stack = []; flag = false }) ∷ []))
  -- an `<init>` that returns before `this` is initialised
  pub init : checked_method true true [] (177 ∷ []) [] (λ pc. None) ≡ Failed 0 rule.Init
  -- goto to an instruction without a frame in the StackMapTable
  pub target : checked_code (167 ∷ 0 ∷ 3 ∷ 177 ∷ []) ≡ Failed 0 rule.Target
  -- and with one
  pub jump : checked_method false false [] (167 ∷ 0 ∷ 3 ∷ 177 ∷ []) [] (types_at 3 (plain_frame [])) ≡ Frames ((0, plain_frame []) ∷ (3, plain_frame []) ∷ [])
  -- goto to a place before the code
  pub before_the_code : checked_code (167 ∷ 255 ∷ 255 ∷ 177 ∷ []) ≡ Failed 0 rule.Target
  -- nop; return, with a handler at the return that has no frame
  pub handler : checked_method false false [] (0 ∷ 177 ∷ []) (record { start = 0; end = 1; target = 1; caught = None } ∷ [])
      (λ pc. None) ≡ Failed 0 rule.Handled
