-- A bare image, seen as a program: one class method, whose parameters are the ints with which its local variables begin, and no objects.
use Rattle.std.specs.Prelude.{◌≡◌, ℕ, zero, suc, ◌==◌, ◌||◌, ◌&&◌, nat_lt, false, if◌then◌else◌, List, [], ◌∷◌, replicate, Option, Some, None, FitsSigned}
use Rattle.std.specs.Int.{w32}
use Rattle.std.specs.Option.{IsSomeAnd}
use Rattle.opcodes.specs.Start.{starts_of}
use Rattle.bytecode_model.specs.declared.Value.TheVariants.{Int}
use Rattle.bytecode_model.specs.Types.{IntType, Numeric, Numbers}
use Rattle.bytecode_model.specs.Program.{Program, Method, Body, NoOperand, object_class, serializable_class, cloneable_class}
use Rattle.bytecode_model.specs.Rows as rows
use Rattle.bytecode_model.specs.Rows.{Row, Zero, One, Drop, Copy}
use Rattle.bytecode_model.specs.Steps.{row_in}
use Rattle.bytecode_typing.specs.Types.{Integer, TypeFrame}
use Rattle.bytecode_typing.specs.Typed.{Typing, RaisesNothing}
use Rattle.bytecode_typing.specs.Typings.{frame_among}

abbrev pub bare_method : Body → Method
bare_method b = record {
  owner = object_class;
  has_this = false;
  is_init = false;
  parameters = replicate b.max_locals (Numeric IntType);
  result = None;
  body = Some b;
}

-- of classes there is Object alone, as far as it matters
abbrev pub bare_program : Body → Program
bare_program b = record {
  linked = false;
  methods = bare_method b ∷ [];
  boot = 0;
  operand = λ n pc. NoOperand;
  guarded = λ n pc. false;
  types = [];
  extends = λ c d. c == d || d == object_class;
  superclass = λ c. None;
  is_interface = λ c. c == serializable_class || c == cloneable_class;
  is_concrete = λ c. false;
  fields = λ c. [];
  statics = [];
  first_statics = [];
  first_objects = [];
  select = λ c m. None;
}

-- how many ints are on the stack behind a row, where so many were before it; none where the row is no bare one, or leaves the stack or the local variables
abbrev pub depth_behind : Body → Row → (depth : ℕ) → Option ℕ
depth_behind b rows.Nothing d = Some d
depth_behind b (rows.Push (Int i)) d = if nat_lt d b.max_stack then Some (suc d) else None
depth_behind b (rows.Load (Numbers IntType) k) d = if nat_lt k b.max_locals && nat_lt d b.max_stack then Some (suc d) else None
depth_behind b (rows.Store (Numbers IntType) k) (suc d) = if nat_lt k b.max_locals then Some d else None
depth_behind b (rows.Compute (IntType ∷ IntType ∷ []) IntType compute) (suc (suc d)) = Some (suc d)
depth_behind b (rows.Shuffle Drop One Zero) (suc d) = Some d
depth_behind b (rows.Shuffle Copy One Zero) (suc d) = if nat_lt (suc d) b.max_stack then Some (suc (suc d)) else None
depth_behind b rows.Write (suc d) = Some d
depth_behind b r d = None

-- a constant is an int
abbrev pub IsIntConstant : Row → Type 0
IsIntConstant (rows.Push (Int i)) = FitsSigned w32 i
IsIntConstant r = Unit {0}

-- From so many ints on the stack on, the instructions at these places follow one another, raise nothing, and keep the stack and the local variables within the
-- method's limits; the last one is return.
abbrev pub StayWithin : Body → (places : List ℕ) → (depth : ℕ) → Type 0
StayWithin b [] d = ⊥
StayWithin b (pc ∷ []) d = IsSomeAnd (row_in (bare_program b) 0 pc) (λ x. x.1 ≡ rows.Return None)
StayWithin b (pc ∷ q ∷ qs) d =
    IsSomeAnd (row_in (bare_program b) 0 pc) (λ x. (x.0 ≡ q) × RaisesNothing x.1 × IsIntConstant x.1
    × IsSomeAnd (depth_behind b x.1 d) (λ e. StayWithin b (q ∷ qs) e))

-- the body of a bare image
pub record IsStraightLine (b : Body) : Type 0 where
  pub handlers : b.handlers ≡ []
  pub within : StayWithin b (starts_of b.code) 0

abbrev pub int_frame : Body → (depth : ℕ) → TypeFrame
int_frame b d = record { locals = replicate b.max_locals Integer; stack = replicate d Integer; flag = false }

abbrev pub depth_after : Body → (depth : ℕ) → Option (ℕ × Row) → ℕ
depth_after b d None = 0
depth_after b d (Some x) = elim (depth_behind b x.1 d) [ None ↦ 0 | Some e ↦ e ]

-- the frame of ints before each instruction
abbrev pub int_frames : Body → (places : List ℕ) → (depth : ℕ) → List (ℕ × TypeFrame)
int_frames b [] d = []
int_frames b (pc ∷ pcs) d = (pc, int_frame b d) ∷ int_frames b pcs (depth_after b d (row_in (bare_program b) 0 pc))

abbrev pub bare_typing : Body → Typing
bare_typing b zero pc = frame_among (int_frames b (starts_of b.code) 0) pc
bare_typing b (suc n) pc = None
