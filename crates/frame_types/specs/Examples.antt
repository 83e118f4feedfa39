-- Worked frames: JVM Specification SE 8, 4.7.4 and 4.10.1.
use Rattle.std.specs.Prelude.{◌≡◌, ℕ, true, false, List, [], ◌∷◌, codes, Result, Ok, Err}
use Rattle.class_pool.specs.declared.entry.Entry.TheVariants as entries
use Rattle.class_pool.specs.declared.class.Code.{Code}
use Rattle.class_pool.specs.declared.class.Member.{Member}
use Rattle.class_pool.specs.declared.class.ClassFile.{ClassFile}
use Rattle.frame_types.specs.declared.types.VarType.{VarType}
use Rattle.frame_types.specs.declared.types.VarType.TheVariants.{Top, Integer, Null, UninitializedThis, Object, Uninitialized, Long}
use Rattle.frame_types.specs.declared.types.TypeFrame.{TypeFrame}
use Rattle.frame_types.specs.declared.types.Frames.{Frames}
use Rattle.frame_types.specs.Frames.{frames_of}

-- a class A with a method; entry 2 names the class, and entry 5 the attribute
abbrev pub class_with : (name descriptor : List ℕ) → ClassFile
class_with name descriptor = record {
  minor = 0;
  major = 52;
  pool = entries.Utf8 (codes "A") ∷ entries.Class 1 ∷ entries.Utf8 name ∷ entries.Utf8 descriptor ∷ entries.Utf8 (codes "StackMapTable") ∷ [];
  flags = 0x21;
  this_class = 2;
  super_class = 0;
  interfaces = [];
  fields = [];
  methods = [];
  attributes = [];
}

abbrev pub member_with : (flags : ℕ) → Member
member_with flags = record { flags = flags; name = 3; descriptor = 4; attributes = [] }

abbrev pub code_with : (max_stack max_locals : ℕ) → (code table : List ℕ) → Code
code_with max_stack max_locals code table = record { max_stack = max_stack; max_locals = max_locals; code = code; handlers = []; attributes = (5, table) ∷ [] }

-- the frames of a static method
abbrev pub static_frames : (descriptor : List ℕ) → (max_stack max_locals : ℕ) → (code table : List ℕ) → Result Frames ℕ
static_frames descriptor max_stack max_locals code table = frames_of (class_with (codes "m") descriptor) (member_with 8)
    (code_with max_stack max_locals code table)

abbrev pub frame : (locals stack : List VarType) → TypeFrame
frame locals stack = record { locals = locals; stack = stack; flag = false }

abbrev pub frames : (first : TypeFrame) → (at : List (ℕ × TypeFrame)) → Frames
frames first at = record { first = first; at = at }

-- iconst_0, ifeq 4, return
abbrev pub branch : List ℕ
branch = 0x03 ∷ 0x99 ∷ 0x00 ∷ 0x03 ∷ 0xB1 ∷ []

-- five instructions of one byte
abbrev pub nops : List ℕ
nops = 0x00 ∷ 0x00 ∷ 0x00 ∷ 0x00 ∷ 0xB1 ∷ []

-- new A, pop, return
abbrev pub making : List ℕ
making = 0xBB ∷ 0x00 ∷ 0x02 ∷ 0x57 ∷ 0xB1 ∷ []

abbrev pub strings : TypeFrame
strings = frame (Object (codes "[Ljava/lang/String;") ∷ []) []

abbrev pub uninitialized_this : TypeFrame
uninitialized_this = record { locals = UninitializedThis ∷ Top ∷ []; stack = []; flag = true }

-- iload_0, ifeq 7, nop, nop, nop, iload_0, ifne 4, return
abbrev pub crossed : List ℕ
crossed = 0x1A ∷ 0x99 ∷ 0x00 ∷ 0x06 ∷ 0x00 ∷ 0x00 ∷ 0x00 ∷ 0x1A ∷ 0x9A ∷ 0xFF ∷ 0xFC ∷ 0xB1 ∷ []

-- iconst_0, lookupswitch without pairs whose default is 12, return
abbrev pub switch : List ℕ
switch = 0x03 ∷ 0xAB ∷ 0x00 ∷ 0x00 ∷ 0x00 ∷ 0x00 ∷ 0x00 ∷ 0x0B ∷ 0x00 ∷ 0x00 ∷ 0x00 ∷ 0x00 ∷ 0xB1 ∷ []

pub record WorkedFrames : Type 0 where
  -- no StackMapTable
  pub none : frames_of (class_with (codes "m") (codes "()V")) (member_with 8) (record (code_with 0 0 nops []) { attributes = [] }) ≡ Ok
      (frames (frame [] []) [])
  -- one same_frame, at 4
  pub same : static_frames (codes "([Ljava/lang/String;)V") 1 1 branch (0 ∷ 1 ∷ 4 ∷ []) ≡ Ok (frames strings ((4, strings) ∷ []))
  pub two : static_frames (codes "(I)V") 1 1 crossed (0 ∷ 2 ∷ 4 ∷ 2 ∷ []) ≡ Ok
      (frames (frame (Integer ∷ []) []) ((4, frame (Integer ∷ []) []) ∷ (7, frame (Integer ∷ []) []) ∷ []))
  pub behind_switch : static_frames (codes "()V") 1 0 switch (0 ∷ 1 ∷ 12 ∷ []) ≡ Ok (frames (frame [] []) ((12, frame [] []) ∷ []))
  -- chop_frame takes away a Long as one
  pub chop : static_frames (codes "(JI)V") 0 4 nops (0 ∷ 2 ∷ 250 ∷ 0 ∷ 1 ∷ 250 ∷ 0 ∷ 0 ∷ [])
      ≡ Ok (frames (frame (Long ∷ Top ∷ Integer ∷ Top ∷ []) []) ((1, frame (Long ∷ Top ∷ Top ∷ Top ∷ []) []) ∷ (2, frame (Top ∷ Top ∷ Top ∷ Top ∷ []) []) ∷ []))
  pub chop_absent : static_frames (codes "(JI)V") 0 4 nops (0 ∷ 1 ∷ 248 ∷ 0 ∷ 1 ∷ []) ≡ Err 1
  -- append_frame: a Long takes two local variables
  pub append : static_frames (codes "()V") 0 3 nops (0 ∷ 1 ∷ 253 ∷ 0 ∷ 1 ∷ 4 ∷ 5 ∷ []) ≡ Ok
      (frames (frame (Top ∷ Top ∷ Top ∷ []) []) ((1, frame (Long ∷ Top ∷ Null ∷ []) []) ∷ []))
  pub append_too_many : static_frames (codes "()V") 0 2 nops (0 ∷ 1 ∷ 253 ∷ 0 ∷ 1 ∷ 4 ∷ 5 ∷ []) ≡ Err 1
  -- full_frame: a Long on the operand stack takes two words
  pub full : static_frames (codes "()V") 3 1 nops (0 ∷ 1 ∷ 255 ∷ 0 ∷ 1 ∷ 0 ∷ 1 ∷ 1 ∷ 0 ∷ 2 ∷ 4 ∷ 7 ∷ 0 ∷ 2 ∷ [])
      ≡ Ok (frames (frame (Top ∷ []) []) ((1, frame (Integer ∷ []) (Long ∷ Object (codes "A") ∷ [])) ∷ []))
  pub full_too_deep : static_frames (codes "()V") 2 1 nops (0 ∷ 1 ∷ 255 ∷ 0 ∷ 1 ∷ 0 ∷ 1 ∷ 1 ∷ 0 ∷ 2 ∷ 4 ∷ 7 ∷ 0 ∷ 2 ∷ []) ≡ Err 1
  -- same_locals_1_stack_item_frame of what the `new` at 0 made
  pub made : static_frames (codes "()V") 1 0 making (0 ∷ 1 ∷ 67 ∷ 8 ∷ 0 ∷ 0 ∷ []) ≡ Ok (frames (frame [] []) ((3, frame [] (Uninitialized 0 ∷ [])) ∷ []))
  pub not_made : static_frames (codes "()V") 1 0 making (0 ∷ 1 ∷ 67 ∷ 8 ∷ 0 ∷ 3 ∷ []) ≡ Err 3
  -- an `<init>`, and same_frame_extended
  pub init : frames_of (class_with (codes "<init>") (codes "()V")) (member_with 1) (code_with 0 2 nops (0 ∷ 1 ∷ 251 ∷ 0 ∷ 2 ∷ [])) ≡ Ok
      (frames uninitialized_this ((2, uninitialized_this) ∷ []))
  -- a place within an instruction; the earlier of two faults
  pub no_start : static_frames (codes "()V") 0 0 branch (0 ∷ 1 ∷ 2 ∷ []) ≡ Err 2
  pub earlier : static_frames (codes "()V") 0 0 branch (0 ∷ 2 ∷ 2 ∷ 5 ∷ []) ≡ Err 2
  -- no list of frames: a byte too many, a reserved tag, a float, an index of no Class entry
  pub too_long : static_frames (codes "()V") 0 0 nops (0 ∷ 0 ∷ 0 ∷ []) ≡ Err 0
  pub reserved : static_frames (codes "()V") 0 0 nops (0 ∷ 1 ∷ 128 ∷ []) ≡ Err 0
  pub float : static_frames (codes "()V") 1 0 nops (0 ∷ 1 ∷ 65 ∷ 2 ∷ []) ≡ Err 0
  pub no_class : static_frames (codes "()V") 1 0 nops (0 ∷ 1 ∷ 65 ∷ 7 ∷ 0 ∷ 1 ∷ []) ≡ Err 0
  -- the first frame passes the local variables
  pub first_too_long : static_frames (codes "(J)V") 0 1 nops (0 ∷ 0 ∷ []) ≡ Err 0
