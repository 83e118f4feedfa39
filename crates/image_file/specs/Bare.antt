-- The bare grammar: an image of one method of ints, without classes.
use Rattle.std.specs.Prelude.{◌≡◌, ℕ, ◌+◌, ◌-◌, ◌/◌, ◌%◌, ◌^◌, ◌<◌, ◌≤◌, List, [], ◌∷◌, ◌++◌, length, Some, codes, slice_index}
use Rattle.image_file.specs.declared.bare.shape.Shape.{Shape}
use Rattle.image_file.specs.Shapes.{shape_of}

pub record BareContent : Type 0 where
  pub max_locals : ℕ
  pub max_stack : ℕ
  pub code : List ℕ

-- the words that boot's frame takes: its locals, five saved words and its operands
abbrev pub frame_words : BareContent → ℕ
frame_words image = image.max_locals + 5 + image.max_stack

-- An instruction: its opcode and the bytes behind it.
pub record Instruction : Type 0 where
  pub opcode : ℕ
  pub operands : List ℕ

-- the bytes of instructions, one after another
abbrev pub spelled : List Instruction → List ℕ
spelled [] = []
spelled (i ∷ is) = i.opcode ∷ (i.operands ++ spelled is)

-- an instruction of this shape may stand where so many operands are on the stack
pub record InstructionFits (max_locals max_stack depth : ℕ) (i : Instruction) (s : Shape) : Type 0 where
  pub known : shape_of i.opcode ≡ Some s
  pub bytes : length i.operands ≡ s.bytes
  pub locals : s.locals ≤ max_locals
  pub pops : s.pops ≤ depth
  pub pushes : depth - s.pops + s.pushes ≤ max_stack

-- from so many operands on, the instructions keep the stack within 0 and max_stack, and their locals are below max_locals
abbrev pub KeepLimits : (max_locals max_stack depth : ℕ) → List Instruction → Type 0
KeepLimits max_locals max_stack depth [] = Unit {0}
KeepLimits max_locals max_stack depth (i ∷ is) =
    (s : Shape) × InstructionFits max_locals max_stack depth i s × KeepLimits max_locals max_stack (depth - s.pops + s.pushes) is

-- return, which stands at the end and nowhere else
abbrev pub return_code : ℕ
return_code = 177

-- an image of the bare grammar
pub record IsBareContent (image : BareContent) : Type 0 where
  pub frame : frame_words image ≤ 176
  pub short : length image.code ≤ 4096
  pub bytes : (k : ℕ) → slice_index image.code k < 2 ^ 8
  pub instructions : List Instruction
  pub code : image.code ≡ spelled instructions ++ return_code ∷ []
  pub within : KeepLimits image.max_locals image.max_stack 0 instructions

-- the bytes of a number of 16 and of 32 bits, the high one first
abbrev pub half : ℕ → List ℕ
half n = n / 2 ^ 8 ∷ n % 2 ^ 8 ∷ []

abbrev pub word : ℕ → List ℕ
word n = half (n / 2 ^ 16) ++ half (n % 2 ^ 16)

-- the bytes of an image: the mark, the version, its limits, the length of its code and the code
abbrev pub bare_bytes : BareContent → List ℕ
bare_bytes image =
    codes "JOPB" ++ half 1 ++ half image.max_locals ++ half image.max_stack ++ word (length image.code) ++ image.code

-- these bytes are that image
pub record IsBareFile (bytes : List ℕ) (image : BareContent) : Type 0 where
  pub grammar : IsBareContent image
  pub spelling : bytes ≡ bare_bytes image
