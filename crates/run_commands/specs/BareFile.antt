-- What `run` and `trace` do with the bytes of a file that don't begin as those of a linked image.
use Rattle.std.specs.Prelude.{◌≡◌, ℕ, ◌<◌, ◌≤◌, ◌⊎◌, List}
use Rattle.image_file.specs.Bare.{BareContent, IsBareFile}
use Rattle.machine_memory.specs.declared.timing.Config.{Config}
use Rattle.jop_core.specs.State as machine
use Rattle.jop_core.specs.Reset.{bare_reset}
use Rattle.command_line.specs.declared.command.Settings.{Settings}
use Rattle.boundary.specs.Setting.{Setting, bare_setting}
use Rattle.endings.specs.declared.show.Show.{Show}
use Rattle.endings.specs.Show.{Shown, bare_shown}
use Rattle.run_devices.specs.Lent.{Lent}
use Rattle.boundary.specs.declared.runs.RunEnd.TheVariants as ends
use Rattle.endings.specs.declared.outcome.Refusal.TheVariants.{MethodTooLong}
use Rattle.endings.specs.declared.outcome.Ending.{Ending}
use Rattle.endings.specs.declared.outcome.Ending.TheVariants.{Ended, Refused, Spent, WriteFault, NoMemory}
use Rattle.endings.specs.Phase.{HasSettings}
use Rattle.run_commands.specs.Run as run
use Rattle.endings.specs.Opening.{ImageFault}
use Rattle.endings.specs.Fitting.{blocks_of_code}

-- How the run of a bare image ends: no class is uncaught, and the input isn't asked.
abbrev pub RanImage : Shown → (g : Setting) → (reset : machine.MachineState) → (limit : ℕ) → (old new : Lent) → Ending → Type 0
RanImage shown g reset limit old new (Ended counts) = run.Ran shown g reset limit old new (run.ended ends.Ended counts)
RanImage shown g reset limit old new (Spent counts) = run.Ran shown g reset limit old new (run.ended ends.Spent counts)
RanImage shown g reset limit old new WriteFault = run.RanToFault shown g reset limit old new WriteFault
RanImage shown g reset limit old new NoMemory = new ≡ old
RanImage shown g reset limit old new ending = ⊥

-- The code of the image takes more blocks than the method cache has, and nothing was done.
pub record IsCodeTooLong (settings : Settings) (image : BareContent) (old new : Lent) (ending : Ending) : Type 0 where
  pub blocks : settings.blocks < blocks_of_code settings image
  pub ending_is : ending ≡ Refused (MethodTooLong 0 (blocks_of_code settings image) settings.blocks)
  pub same : new ≡ old

-- The code fits the method cache, and the image was run by a machine with the settings.
pub record RanImageWith (settings : Settings) (show : Show) (image : BareContent) (old new : Lent) (ending : Ending) : Type 0 where
  pub blocks : blocks_of_code settings image ≤ settings.blocks
  pub config : Config
  pub has : HasSettings settings config
  pub ran : RanImage (bare_shown show) (bare_setting image settings.stack config.memory) (bare_reset settings.stack image config) settings.cycles old new ending

-- The bytes are those of an image, and its code takes more blocks than the method cache has, or it was run.
pub record RunsImage (settings : Settings) (show : Show) (bytes : List ℕ) (old new : Lent) (ending : Ending) : Type 0 where
  pub image : BareContent
  pub bare : IsBareFile bytes image
  pub ran : IsCodeTooLong settings image old new ending ⊎ RanImageWith settings show image old new ending

-- how the run of the bytes ends
abbrev pub RunsBareBytes : Settings → Show → (bytes : List ℕ) → (old new : Lent) → Ending → Type 0
RunsBareBytes settings show bytes old new ending = (ImageFault bytes ending × (new ≡ old)) ⊎ RunsImage settings show bytes old new ending
