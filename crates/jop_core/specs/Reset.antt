-- A machine at reset.
use Rattle.std.specs.Prelude.{ℕ, ◌+◌, ◌-◌, ◌/◌, ◌%◌, ◌^◌, ◌≤◌, List, [], ◌∷◌, ◌++◌, length, replicate, slice_index, slice_range, Some, None, IsTrue}
use Rattle.std.specs.declared.option.Option.{Option}
use Rattle.machine_memory.specs.declared.timing.Config.{Config}
use Rattle.machine_memory.specs.Timing.Port.{idle, padded}
use Rattle.method_cache.specs.Contents.{empty, loaded, can_load}
use Rattle.microcode.specs.declared.TheConstants.{CONSTANTS}
use Rattle.jop_core.specs.declared.halt.Halt.TheVariants.{Running, Uncaught}
use Rattle.jop_core.specs.declared.places.TheConstants.{POOL, STACK, RAISED}
use Rattle.jop_core.specs.State.{MachineState}
pub use Rattle.base.specs.Packed.{word_at_bytes, words_from, words_for, words_of_bytes}
use Rattle.jop_core.specs.Operations.{code_words, code_place}
use Rattle.jop_core.specs.Cycle.{byte_of, entry_of}
use Rattle.image_file.specs.Bare.{BareContent, frame_words}

-- What a machine begins with: the words of its image, boot's place, locals and frame, its code, and the places of boot's pool and of the raise list.
pub record Start : Type 0 where
  pub image : List ℕ
  pub boot : ℕ
  pub max_locals : ℕ
  pub frame : ℕ
  pub code : List ℕ
  pub pool : ℕ
  pub raise_list : ℕ

-- The on-chip words from POOL to RAISED: the pool of the current class, the current method, the next heap word, the end of the memory,
-- the sum of the frames' words and its limit, the place of the raise list, the object that is raised.
abbrev pub places : (n memory words : ℕ) → (pool boot frame raise_list : ℕ) → List ℕ
places n memory words pool boot frame raise_list = pool ∷ boot ∷ words ∷ memory ∷ frame ∷ (n - 80) ∷ raise_list ∷ 0 ∷ []

-- the on-chip words, n of them: scratch, places, constants, and then the stack, all of whose words are 0
abbrev pub reset_words : (n memory words : ℕ) → (pool boot frame raise_list : ℕ) → List ℕ
reset_words n memory words pool boot frame raise_list =
    replicate POOL 0 ++ places n memory words pool boot frame raise_list ++ CONSTANTS ++ replicate (n - STACK) 0

abbrev pub first_byte : List ℕ → ℕ
first_byte code = byte_of (slice_index code 0) 0

-- boot's frame stands on the stack without operands, and boot's method is in the cache
abbrev pub reset_of : (n : ℕ) → Start → Config → MachineState
reset_of n start config = record {
  a = 0;
  b = 0;
  sp = (STACK + start.max_locals + 2) % n;
  vp = STACK;
  ar = 0;
  jpc = 1;
  mpc = entry_of (first_byte start.code);
  operand = 0;
  opcode = first_byte start.code;
  method = start.boot;
  cache = loaded start.boot start.code (empty config.blocks config.block_words);
  stall = 0;
  halt = Running;
  stack = reset_words n config.memory (length start.image) start.pool start.boot start.frame start.raise_list;
  port = idle (padded start.image config.memory) config.read config.write;
  write_address = 0;
  clock = 0;
  hits = 0;
  misses = 0;
}

-- a bare image has no words, and its method is at place 0
abbrev pub bare_start : BareContent → Start
bare_start image = record {
  image = [];
  boot = 0;
  max_locals = image.max_locals;
  frame = frame_words image;
  code = words_of_bytes image.code;
  pool = 0;
  raise_list = 0;
}

abbrev pub bare_reset : (n : ℕ) → BareContent → Config → MachineState
bare_reset n image config = reset_of n (bare_start image) config

-- Of image words, word 1 is the place of boot's method, word 2 that of its pool, and word 4 that of the raise list. A method's first word has its
-- locals and its operands.
abbrev pub linked_start : List ℕ → Start
linked_start image =
    let boot = slice_index image 1 in
    let limits = slice_index image boot in
    record {
      image = image;
      boot = boot;
      max_locals = limits / 2 ^ 16;
      frame = limits / 2 ^ 16 + 5 + limits % 2 ^ 16;
      code = slice_range image (code_place image boot) (code_place image boot + code_words image boot);
      pool = slice_index image 2;
      raise_list = slice_index image 4;
    }

abbrev pub linked_reset : (n : ℕ) → List ℕ → Config → MachineState
linked_reset n image config = reset_of n (linked_start image) config

-- image words that a machine with these settings can begin with: they fit its memory, and boot's method lies whole in them and fits the cache
pub record CanStart (image : List ℕ) (config : Config) : Type 0 where
  pub header : 16 ≤ length image
  pub memory : length image ≤ config.memory
  pub boot : code_place image (slice_index image 1) + code_words image (slice_index image 1) ≤ length image
  pub blocks : IsTrue (can_load (code_words image (slice_index image 1)) (empty config.blocks config.block_words))

-- a bare image that a machine with these settings can begin with: its code fits the cache
abbrev pub CanStartBare : BareContent → Config → Type 0
CanStartBare image config = IsTrue (can_load (words_for (length image.code)) (empty config.blocks config.block_words))

-- where the machine has halted uncaught, the number of the class of the object that was raised: the first word of its type
abbrev pub uncaught_of : MachineState → Option ℕ
uncaught_of s = elim s.halt [ Uncaught ↦ Some (slice_index s.port.words (slice_index s.port.words (slice_index s.stack RAISED))) | _ ↦ None ]
