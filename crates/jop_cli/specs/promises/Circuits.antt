-- What `rtl` promises: what it puts is the text of a circuit that is the machine with the image in it.
use Rattle.std.specs.Prelude.{◌≡◌, ℕ, ◌+◌, ◌⊎◌, List, Ok}
use Rattle.command_line.specs.declared.command.Command.TheVariants.{Rtl}
use Rattle.machine_memory.specs.declared.timing.Config.{Config}
use Rattle.netlist.specs.declared.parts.Netlist.{Netlist}
use Rattle.netlist_text.specs.Text.{text_of}
use Rattle.machine_circuit.specs.Circuits.{IsCircuitOf, IsBareCircuitOf}
use Rattle.endings.specs.Phase.{HasSettings}
use Rattle.jop_cli.specs.promises.Words.{Settings, BareContent, IsBareFile, Parts, Grew, Call, AreFiles, command_of, text_of_word, Written}
use Rattle.jop_cli.specs.promises.Images.{IsOpened}

-- The bytes are those of a linked image, and the text of a netlist was put that is a machine with the settings, with the words of the image in it.
pub record CircuitShown (c : Call) (settings : Settings) (bytes : List ℕ) : Type 0 where
  pub linked : Parts
  pub opened : IsOpened bytes linked
  pub config : Config
  pub has : HasSettings settings config
  pub netlist : Netlist
  pub is_circuit : IsCircuitOf linked.laid.words settings.stack config netlist
  pub put : Grew c.old.out c.new.out (text_of netlist)

-- They are those of a bare image, and so it is with that.
pub record BareCircuitShown (c : Call) (settings : Settings) (bytes : List ℕ) : Type 0 where
  pub image : BareContent
  pub bare : IsBareFile bytes image
  pub config : Config
  pub has : HasSettings settings config
  pub netlist : Netlist
  pub is_circuit : IsBareCircuitOf image settings.stack config netlist
  pub put : Grew c.old.out c.new.out (text_of netlist)

-- So it is with the file of a word.
pub record ShowsCircuit (c : Call) (settings : Settings) (image : ℕ) : Type 0 where
  pub files : List (List ℕ)
  pub are : AreFiles c.old.files image (image + 1) files
  pub shows : CircuitShown c settings (text_of_word files 0) ⊎ BareCircuitShown c settings (text_of_word files 0)

-- From the answer alone: what is written is the text of the circuit of the image.
abbrev pub CircuitsAreShown : Type 0
CircuitsAreShown =
    (c : Call) (settings : Settings) (image : ℕ) → command_of c.words ≡ Ok (Rtl settings image) → c.outcome ≡ Written → ShowsCircuit c settings image
