-- A bare image as a program.
use Rattle.std.specs.Prelude.{◌≡◌, ℕ, [], Some}
use Rattle.machine_memory.specs.declared.timing.Config.{Config}
use Rattle.machine_memory.specs.Stack.Size.{IsSize}
use Rattle.image_file.specs.Bare.{BareContent, IsBareContent}
use Rattle.jop_core.specs.Reset.{bare_reset, CanStartBare}
use Rattle.bytecode_model.specs.State.{State}
use Rattle.bytecode_model.specs.Program.{Body, Program}
use Rattle.bytecode_model.specs.Steps.{boot_state}
use Rattle.bytecode_typing.specs.Bare as bare
use Rattle.image_facts.specs.Places.{bare_places}
use Rattle.image_facts.specs.Says.{Says}
use Rattle.machine_stands.specs.StandsFor.{StandsFor}

abbrev pub body_of : BareContent → Body
body_of image = record { max_locals = image.max_locals; max_stack = image.max_stack; code = image.code; handlers = [] }

-- one class method without a result, whose parameters are the ints with which its local variables begin
abbrev pub program_of : BareContent → Program
program_of image = bare.bare_program (body_of image)

-- its places say what it is
abbrev pub BareImagesSay : Type 0
BareImagesSay = (image : BareContent) → IsBareContent image → Says (program_of image) bare_places

-- the machine at reset stands for the boot state
abbrev pub BareImagesBegin : Type 0
BareImagesBegin = (n : ℕ) (image : BareContent) (config : Config) (s : State) → IsSize n → IsBareContent image → CanStartBare image config
    → boot_state (program_of image) ≡ Some s → StandsFor (program_of image) bare_places n config.memory (bare_reset n image config) s
