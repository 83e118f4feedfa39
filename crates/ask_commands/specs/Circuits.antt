-- What `rtl` finds of an image: the text of a circuit that is a machine with the image in it, or why there is none.
use Rattle.std.specs.Prelude.{◌≡◌, ℕ, ◌≤◌, ◌⊎◌, List, length, Ok, Err}
use Rattle.std.specs.declared.result.Result.{Result}
use Rattle.image_file.specs.Bare.{BareContent}
use Rattle.machine_memory.specs.declared.timing.Config.{Config}
use Rattle.netlist.specs.declared.parts.Netlist.{Netlist}
use Rattle.circuit_build.specs.declared.finishing.BuildFault.{BuildFault}
use Rattle.circuit_build.specs.declared.finishing.BuildFault.TheVariants.{Malformed}
use Rattle.circuit_build.specs.declared.finishing.BuildFault.TheVariants as faults
use Rattle.netlist_text.specs.Text.{text_of}
use Rattle.machine_circuit.specs.Circuits.{IsCircuitOf, IsBareCircuitOf}
use Rattle.jopizer.specs.Linked.{Parts}
use Rattle.command_line.specs.declared.command.Settings.{Settings}
use Rattle.endings.specs.Fitting.{CodesFit, IsUnheld, EndsTooLong, blocks_of_code}
use Rattle.endings.specs.Phase.{HasSettings}
use Rattle.endings.specs.declared.outcome.Refusal.TheVariants.{NoCircuit}
use Rattle.endings.specs.declared.outcome.Answer.{Answer}
use Rattle.endings.specs.declared.outcome.Answer.TheVariants.{Text, Ends}
use Rattle.endings.specs.declared.outcome.Ending.{Ending}
use Rattle.endings.specs.declared.outcome.Ending.TheVariants.{Refused, NoMemory}

-- ---- the text of a circuit

-- the text of the netlist, if one was made and there was memory for it, or the ending that says that none was
abbrev pub IsTextOfCircuit : Result Netlist BuildFault → Answer → Type 0
IsTextOfCircuit (Ok netlist) (Text text) = text.items ≡ text_of netlist
IsTextOfCircuit (Ok netlist) (Ends ending) = ending ≡ NoMemory
IsTextOfCircuit (Err Malformed) answer = answer ≡ Ends (Refused NoCircuit)
IsTextOfCircuit (Err faults.NoMemory) answer = answer ≡ Ends NoMemory

-- ---- what is linked

-- The text is that of a circuit: a netlist that is a machine with the settings, with the words of the image in its memory.
pub record IsCircuitText (s : Settings) (words text : List ℕ) : Type 0 where
  pub config : Config
  pub has : HasSettings s config
  pub netlist : Netlist
  pub is_circuit : IsCircuitOf words s.stack config netlist
  pub says : text ≡ text_of netlist

-- a machine with the settings holds what was linked: each code its method cache, and the words its memory
pub record IsHeldBy (s : Settings) (l : Parts) : Type 0 where
  pub codes : CodesFit s l
  pub memory : length l.laid.words ≤ s.memory

-- no circuit is made of what the machine holds
abbrev pub IsUnmade : Ending → Type 0
IsUnmade (Refused NoCircuit) = Unit {0}
IsUnmade NoMemory = Unit {0}
IsUnmade ending = ⊥

-- the text of the circuit of what the machine holds; or why it isn't held, as a run is refused; or that no circuit is made
abbrev pub AnswersCircuit : Settings → Parts → Answer → Type 0
AnswersCircuit s l (Text text) = IsHeldBy s l × IsCircuitText s l.laid.words text.items
AnswersCircuit s l (Ends ending) = IsUnheld s l ending ⊎ (IsHeldBy s l × IsUnmade ending)

-- ---- a bare image

pub record IsBareCircuitText (s : Settings) (image : BareContent) (text : List ℕ) : Type 0 where
  pub config : Config
  pub has : HasSettings s config
  pub netlist : Netlist
  pub is_circuit : IsBareCircuitOf image s.stack config netlist
  pub says : text ≡ text_of netlist

abbrev pub AnswersBareCircuit : Settings → BareContent → Answer → Type 0
AnswersBareCircuit s image (Text text) = (blocks_of_code s image ≤ s.blocks) × IsBareCircuitText s image text.items
AnswersBareCircuit s image (Ends ending) = EndsTooLong s image ending ⊎ ((blocks_of_code s image ≤ s.blocks) × IsUnmade ending)
