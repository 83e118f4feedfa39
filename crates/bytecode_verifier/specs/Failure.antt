-- The rules of a method in their order, and what fails first in a program: JVM Specification SE 8, 4.7.3, 4.7.4, 4.9.1 and 4.10.1.
use Rattle.std.specs.Prelude.{◌≡◌, ℕ, ◌<◌, ◌==◌, not, ◌&&◌, ◌||◌, nat_lt, Bool, List, [], ◌∷◌, length, map, min, Option, Some, None, option_map, Result, Ok}
use Rattle.std.specs.Prelude.{Err, slice_get}
use Rattle.std.specs.List.{filter}
use Rattle.opcodes.specs.Start.{first_bad}
use Rattle.class_pool.specs.declared.class.Code.{Code}
use Rattle.class_pool.specs.declared.class.Member.{Member}
use Rattle.class_pool.specs.declared.class.ClassFile.{ClassFile}
use Rattle.class_pool.specs.Found.{code_of, otherwise}
use Rattle.class_lookup.specs.Lookup.{Place}
use Rattle.frame_types.specs.declared.types.Frames.{Frames}
use Rattle.frame_types.specs.Types.{is_start}
use Rattle.frame_types.specs.Frames.{frames_of}
use Rattle.bytecode_model.specs.Program.{Method, Body}
use Rattle.program_tables.specs.Resolved.{body_in, method_in, at_method, resolved}
use Rattle.bytecode_typing.specs.Types.{TypeFrame}
use Rattle.bytecode_typing.specs.Rules as rules
use Rattle.bytecode_typing.specs.Walk as walk
use Rattle.bytecode_typing.specs.Walk.{Walked, first_types, walked}
use Rattle.bytecode_typing.specs.Typed.{Typing}
use Rattle.bytecode_typing.specs.Typings.{frame_among, typing_found}
use Rattle.verifier_types.specs.Site.{rule_seen}
use Rattle.bytecode_verifier.specs.declared.fault.MethodRule.{MethodRule}
use Rattle.bytecode_verifier.specs.declared.fault.MethodRule.TheVariants as codes
use Rattle.bytecode_verifier.specs.Named.{frames_by}

-- the rules of a method; those of the walk over its instructions come last
pub data Broken : Type 0 where
  -- from the place on the code isn't a whole instruction
  Opcode : Broken
  -- an entry of the exception table is out of its form
  Table : Broken
  -- the StackMapTable is no list of frames, or one of its frames doesn't fit the code; or the first frame passes the local variables
  Map : Broken
  Walk : rules.Rule → Broken

-- the place, and the rule that fails there
abbrev pub Failure : Type 0
Failure = ℕ × Broken

-- ---- whole instructions (4.9.1)

abbrev pub opcode_failure : (code : List ℕ) → Option Failure
opcode_failure code = option_map (λ pc. (pc, Opcode)) (first_bad code)

-- ---- the exception table (4.7.3)

-- an entry with its start, its end, its handler's place and what it catches: its range is empty, or one of these is no start of an instruction; the
-- end may be the code's
abbrev pub is_bad_entry : (code : List ℕ) → ℕ × ℕ × ℕ × ℕ → Bool
is_bad_entry code h = not (nat_lt h.0 h.1 && (is_start code h.0 && ((is_start code h.1 || h.1 == length code) && is_start code h.2)))

abbrev pub lesser : Option ℕ → Option ℕ → Option ℕ
lesser None n = n
lesser (Some m) None = Some m
lesser (Some m) (Some n) = Some (min m n)

-- the least of the numbers
abbrev pub least : List ℕ → Option ℕ
least [] = None
least (n ∷ ns) = lesser (Some n) (least ns)

-- at the least start of the entries that are out of their form
abbrev pub table_failure : (code : List ℕ) → List (ℕ × ℕ × ℕ × ℕ) → Option Failure
table_failure code hs = option_map (λ pc. (pc, Table)) (least (map (λ h. h.0) (filter (is_bad_entry code) hs)))

-- ---- the frames (4.7.4), and the walk over the instructions (4.10.1.6)

abbrev pub walk_failure : Walked → Option Failure
walk_failure (walk.Failed pc r) = Some (pc, Walk r)
walk_failure (walk.Frames fs) = None

-- those of the StackMapTable, by place
abbrev pub maps_in : List ClassFile → Result Frames ℕ → ℕ → Option TypeFrame
maps_in cs (Ok fs) pc = frame_among (frames_by cs fs.at) pc
maps_in cs (Err place) pc = None

abbrev pub frames_failure : List ClassFile → (number : ℕ) → Method → Body → Result Frames ℕ → Option Failure
frames_failure cs n m b (Err place) = Some (place, Map)
frames_failure cs n m b (Ok fs) = walk_failure (walked (resolved cs) n m b (maps_in cs (Ok fs)))

abbrev pub types_failure : List ClassFile → (number : ℕ) → Method → Body → (first : Option TypeFrame) → Result Frames ℕ → Option Failure
types_failure cs n m b None found = Some (0, Map)
types_failure cs n m b (Some f) found = frames_failure cs n m b found

-- ---- a method, and a program

-- method m of number n and its code b, as they stand in a class
abbrev pub code_failure : List ClassFile → (number : ℕ) → Method → Body → ClassFile → Member → Code → Option Failure
code_failure cs n m b c member k =
    otherwise (opcode_failure k.code) (otherwise (table_failure k.code k.handlers) (types_failure cs n m b (first_types m b) (frames_of c member k)))

-- what is said of the code of a method of the program
abbrev pub at_code : {A : Type 0} → List ClassFile → (number : ℕ) → (none : A) → (Place → ClassFile → Member → Code → A) → A
at_code cs n none say =
    at_method cs n none (λ p. elim (slice_get cs p.0) [
      | None ↦ none
      | Some c ↦ elim (slice_get c.methods p.1) [ None ↦ none | Some m ↦ elim (code_of m) [ None ↦ none | Some k ↦ say p c m k ] ]
    ])

-- what fails first in the method of this number; nothing where it has no code
unfoldable pub method_failure : List ClassFile → (number : ℕ) → Option Failure
method_failure cs n = at_code cs n None (λ p c m k. code_failure cs n (method_in cs p.0 c m) (body_in cs c k) c m k)

-- the frames that the StackMapTables of the methods give
unfoldable pub maps_of : List ClassFile → Typing
maps_of cs n = at_code cs n (λ pc. None) (λ p c m k. maps_in cs (frames_of c m k))

-- no rule fails in any method
unfoldable pub IsVerified : List ClassFile → Type 0
IsVerified cs = (n : ℕ) → method_failure cs n ≡ None

-- the rule fails first in the method at the place, and in none before it does any
pub record FailsFirst (cs : List ClassFile) (method pc : ℕ) (rule : Broken) : Type 0 where
  pub fails : method_failure cs method ≡ Some (pc, rule)
  pub before : (n : ℕ) → n < method → method_failure cs n ≡ None

-- the frames that the walks find
abbrev pub types_found : List ClassFile → Typing
types_found cs = typing_found (resolved cs) (maps_of cs)

-- ---- answers

abbrev pub broken_seen : MethodRule → Broken
broken_seen codes.Opcode = Opcode
broken_seen codes.Table = Table
broken_seen codes.Map = Map
broken_seen (codes.Walk rule) = Walk (rule_seen rule)
