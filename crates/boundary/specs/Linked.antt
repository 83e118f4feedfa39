-- A linked program at the start of its run.
use Rattle.std.specs.Prelude.{◌≡◌, ℕ, ◌-◌, ◌≤◌, true, List, length, IfSome, IsTrue}
use Rattle.machine_memory.specs.Stack.Size.{IsSize}
use Rattle.base.specs.Packed.{words_for}
use Rattle.method_cache.specs.Contents.{empty, can_load}
use Rattle.machine_memory.specs.declared.timing.Config.{Config}
use Rattle.jop_core.specs.State as machine
use Rattle.jop_core.specs.Reset.{CanStart, linked_reset}
use Rattle.bytecode_model.specs.Sizes.{body_words}
use Rattle.bytecode_model.specs.Program.{body_of}
use Rattle.image_facts.specs.Places.{image_of, image_words}
use Rattle.image_facts.specs.declared.method.CodedMethod.{CodedMethod}
use Rattle.image_facts.specs.Methods.{AreMethods}
use Rattle.boundary.specs.Setting.{Setting, IsSetting}
use Rattle.boundary.specs.Session.{Begins}

-- A machine with these settings holds the program: its words fit the memory, each method fits the cache, and boot's frame fits the on-chip words.
pub record IsHeld (g : Setting) (config : Config) : Type 0 where
  pub is_setting : IsSetting g
  pub linked : g.program.linked ≡ true
  pub size : IsSize g.chip
  pub memory : g.memory ≡ config.memory
  pub image : image_words g.program g.places ≤ config.memory
  pub methods : (k : ℕ) → IfSome (body_of g.program k) (λ b. IsTrue (can_load (words_for (length b.code)) (empty config.blocks config.block_words)))
  pub boot : IfSome (body_of g.program g.program.boot) (λ b. body_words b ≤ g.chip - 80)

-- The words are those of the image of a program that a machine with n on-chip words holds, and these are its methods with code.
pub record IsHeldImage (n : ℕ) (words : List ℕ) (methods : List CodedMethod) (config : Config) : Type 0 where
  pub setting : Setting
  pub held : IsHeld setting config
  pub chip : setting.chip ≡ n
  pub words_are : words ≡ image_of setting.program setting.places
  pub methods_are : AreMethods setting.program setting.places methods

-- so it begins with each such program
abbrev pub BeginsEach : (n : ℕ) → (words : List ℕ) → Config → machine.MachineState → Type 0
BeginsEach n words config m = (g : Setting) → IsHeld g config → g.chip ≡ n → words ≡ image_of g.program g.places → Begins g m

-- The machine can begin with the words of its image, and at reset over them it stands for the boot state.
abbrev pub LinkedRunsBegin : Type 0
LinkedRunsBegin = (g : Setting) (config : Config) → IsHeld g config
    → let words = image_of g.program g.places in CanStart words config × Begins g (linked_reset g.chip words config)
