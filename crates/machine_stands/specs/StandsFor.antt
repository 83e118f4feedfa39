-- When a machine, at a boundary, stands for a state of a program.
use Rattle.std.specs.Prelude.{◌≡◌, ℕ, ◌+◌, ◌-◌, ◌^◌, ◌<◌, ◌≤◌, true, List, [], ◌∷◌, ◌++◌, length, take, drop, slice_get, slice_index, All, IsTrue, IfSome}
use Rattle.std.specs.Prelude.{IsSomeAnd, Some}
use Rattle.machine_memory.specs.Stack.Size.{IsSize}
use Rattle.microcode.specs.declared.TheConstants.{CONSTANTS as NUMBERS, RAISE}
use Rattle.method_cache.specs.Contents.{Entry, Cache, IsCache, is_cached, can_load}
use Rattle.machine_memory.specs.declared.timing.TheConstants.{MAX_MEMORY}
use Rattle.machine_memory.specs.Timing.Port.{padded}
use Rattle.base.specs.Packed.{words_for, words_of_bytes}
use Rattle.opcodes.specs.Bytes.{u1}
use Rattle.jop_core.specs.declared.halt.Halt.TheVariants as halts
use Rattle.jop_core.specs.declared.places.TheConstants.{POOL, METHOD, NEXT_FREE, MEMORY_END, FRAME_SUM, FRAME_LIMIT, RAISE_LIST, RAISED, CONSTANTS, STACK}
use Rattle.jop_core.specs.State as machine
use Rattle.jop_core.specs.Cycle.{entry_of}
use Rattle.bytecode_model.specs.declared.Ending.{Ending}
use Rattle.bytecode_model.specs.declared.Ending.TheVariants.{Running, Raising, Ended, Uncaught}
use Rattle.bytecode_model.specs.Types.{OfClass}
use Rattle.bytecode_model.specs.State.{Frame, State}
use Rattle.bytecode_model.specs.Program.{Program, Limits, Body, body_of, instr_at, kind_of}
use Rattle.bytecode_model.specs.Sizes.{frames_words}
use Rattle.image_facts.specs.Places.{Places, object_place, end_of, image_words, words_with, pool_of}
use Rattle.machine_stands.specs.Frames.{FrameWords, AreWordsOfFrames, stacked, vp_over}

-- ---- the machine

-- the words of the stack: the on-chip words from STACK to SP, then B, then A
abbrev pub stack_words : machine.MachineState → List ℕ
stack_words m = take (m.sp + 1 - STACK) (drop STACK m.stack) ++ m.b ∷ m.a ∷ []

-- the limits of a machine with n on-chip words and so many words of memory: 80 on-chip words aren't for frames, and what the image leaves is the heap
abbrev pub limits_of : Program → Places → (n size : ℕ) → Limits
limits_of P pl n size = record { frames = n - 80; heap = size - image_words P pl }

-- the numbers of its words, among those on the chip the one that is addressed; those of the memory are at most as many as a configuration may have
pub record HasSizes (n size : ℕ) (m : machine.MachineState) : Type 0 where
  pub is_size : IsSize n
  pub stack : length m.stack ≡ n
  pub ar : m.ar < n
  pub memory : length m.port.words ≡ size
  pub small : size < 2 ^ 32
  pub most : size ≤ MAX_MEMORY

-- the memory holds the image, and each method fits the cache
pub record HasRoom (P : Program) (pl : Places) (size : ℕ) (c : Cache) : Type 0 where
  pub image : image_words P pl ≤ size
  pub methods : (k : ℕ) → IfSome (body_of P k) (λ b. IsTrue (can_load (words_for (length b.code)) c))

-- ---- its parts

-- the words of the memory: those of the image with the static fields and the objects as they are now, and zeros
abbrev pub memory_of : Program → Places → (size : ℕ) → State → List ℕ
memory_of P pl size s = padded (words_with P pl s.statics s.objects) size

-- the on-chip places between the scratch words and the stack
pub record HasRegisters (P : Program) (pl : Places) (n size : ℕ) (m : machine.MachineState) (s : State) (top : Frame) : Type 0 where
  pub pool : slice_index m.stack POOL ≡ pool_of P pl top.method
  pub method : slice_index m.stack METHOD ≡ pl.method top.method
  pub next_free : slice_index m.stack NEXT_FREE ≡ end_of P pl s.objects
  pub memory_end : slice_index m.stack MEMORY_END ≡ size
  pub frame_sum : slice_index m.stack FRAME_SUM ≡ frames_words P s.frames
  pub frame_limit : slice_index m.stack FRAME_LIMIT ≡ n - 80
  pub raise_list : slice_index m.stack RAISE_LIST ≡ pl.raise_list
  pub constants : take 32 (drop CONSTANTS m.stack) ≡ NUMBERS

-- the entry has the words of a method of the program
pub record IsCopy (P : Program) (pl : Places) (e : Entry) : Type 0 where
  pub method : ℕ
  pub place : e.method ≡ pl.method method
  pub words : IsSomeAnd (body_of P method) (λ b. e.words ≡ words_of_bytes b.code)

-- While an object is raised, and where none caught it, words are left above those of the frames, as many as the top frame may have operands.
abbrev pub AreLeftWords : Ending → Body → List ℕ → Type 0
AreLeftWords (Raising p) b left = length left ≤ b.max_stack
AreLeftWords (Uncaught c) b left = length left ≤ b.max_stack
AreLeftWords mode b left = left ≡ []

-- ---- where it stands

-- about to run the instruction of the frame
pub record IsAtInstruction (pl : Places) (m : machine.MachineState) (f : Frame) (b : Body) : Type 0 where
  pub running : m.halt ≡ halts.Running
  pub opcode : m.opcode ≡ u1 b.code f.pc
  pub mpc : m.mpc ≡ entry_of m.opcode
  pub jpc : m.jpc ≡ f.pc + 1
  pub operand : m.operand ≡ 0
  pub method : m.method ≡ pl.method f.method
  pub cached : is_cached m.method m.cache ≡ true

-- about to look for a handler of the object, where the byte before jpc is one of the frame's instruction
pub record IsAtRaise (P : Program) (pl : Places) (m : machine.MachineState) (s : State) (f : Frame) (p : ℕ) : Type 0 where
  pub running : m.halt ≡ halts.Running
  pub mpc : m.mpc ≡ RAISE
  pub jpc : IsSomeAnd (instr_at P f.method f.pc) (λ i. (f.pc < m.jpc) × (m.jpc ≤ f.pc + i.length))
  pub raised : slice_index m.stack RAISED ≡ object_place P pl s.objects p

-- halted over an object of the class
pub record IsAtUncaught (P : Program) (pl : Places) (m : machine.MachineState) (s : State) (c : ℕ) : Type 0 where
  pub halted : m.halt ≡ halts.Uncaught
  pub object : ℕ
  pub raised : slice_index m.stack RAISED ≡ object_place P pl s.objects object
  pub class : IsSomeAnd (slice_get s.objects object) (λ o. kind_of P o ≡ Some (OfClass c))

abbrev pub IsAt : Program → Places → machine.MachineState → State → Frame → Body → Ending → Type 0
IsAt P pl m s f b Running = IsAtInstruction pl m f b
IsAt P pl m s f b (Raising p) = IsAtRaise P pl m s f p
IsAt P pl m s f b Ended = m.halt ≡ halts.Ended
IsAt P pl m s f b (Uncaught c) = IsAtUncaught P pl m s c

-- ---- all of it

-- The machine with n on-chip words and so many words of memory stands for the state of the program whose parts lie at these places.
pub record StandsFor (P : Program) (pl : Places) (n size : ℕ) (m : machine.MachineState) (s : State) : Type 0 where
  pub sizes : HasSizes n size m
  pub room : HasRoom P pl size m.cache
  pub stall : m.stall ≡ 0
  pub idle : m.port.count ≡ 0
  -- the frames
  pub top : Frame
  pub callers : List Frame
  pub frames : s.frames ≡ top ∷ callers
  pub body : Body
  pub is_body : body_of P top.method ≡ Some body
  -- their words
  pub words : FrameWords
  pub below : List FrameWords
  pub left : List ℕ
  pub are_frames : AreWordsOfFrames P pl (object_place P pl s.objects) (top ∷ callers) (words ∷ below)
  pub are_left : AreLeftWords s.mode body left
  pub stack : stack_words m ≡ stacked (words ∷ below) ++ left
  pub vp : m.vp ≡ vp_over below
  pub registers : HasRegisters P pl n size m s top
  -- the memory
  pub memory : m.port.words ≡ memory_of P pl size s
  -- the cache of methods
  pub cache : IsCache m.cache
  pub copies : All (IsCopy P pl) m.cache.contents
  -- where it stands
  pub at : IsAt P pl m s top body s.mode
