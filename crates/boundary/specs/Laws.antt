-- What is proved of bare images as programs.
use Rattle.std.specs.Prelude.{ℕ}
use Rattle.machine_memory.specs.declared.timing.Config.{Config}
use Rattle.machine_memory.specs.Stack.Size.{IsSize}
use Rattle.image_file.specs.Bare.{BareContent, IsBareContent}
use Rattle.jop_core.specs.Reset.{bare_reset, CanStartBare}
use Rattle.boundary.specs.Setting.{IsSetting, bare_setting}
use Rattle.boundary.specs.Session.{Begins}

-- a bare image is a program, which is lawful and typed
abbrev pub BareImagesArePrograms : Type 0
BareImagesArePrograms = (image : BareContent) (chip memory : ℕ) → IsBareContent image → IsSetting (bare_setting image chip memory)

-- the machine at reset stands for its first state
abbrev pub BareRunsBegin : Type 0
BareRunsBegin = (n : ℕ) (image : BareContent) (config : Config) → IsSize n → IsBareContent image → CanStartBare image config
    → Begins (bare_setting image n config.memory) (bare_reset n image config)
