-- The text of a circuit answers.
use Rattle.std.proofs.Common.{◌≡◌, ℕ, ◌≤◌, List, sym, subst, inr, ap}
use Rattle.std.specs.Prelude.{Result, Ok, Err, IfOk, Vec}
use Rattle.std.specs.declared.alloc.Global.{Global}
use Rattle.image_file.specs.Bare.{BareContent}
use Rattle.machine_memory.specs.declared.timing.Config.{Config}
use Rattle.netlist.specs.declared.parts.Netlist.{Netlist}
use Rattle.circuit_build.specs.declared.finishing.BuildFault.{BuildFault}
use Rattle.circuit_build.specs.declared.finishing.BuildFault.TheVariants as faults
use Rattle.machine_circuit.specs.Circuits.{IsCircuitOf, IsBareCircuitOf}
use Rattle.jopizer.specs.Linked.{Parts}
use Rattle.command_line.specs.declared.command.Settings.{Settings}
use Rattle.endings.specs.Phase.{HasSettings}
use Rattle.endings.specs.Fitting.{blocks_of_code}
use Rattle.endings.specs.declared.outcome.Answer.{Answer}
use Rattle.endings.specs.declared.outcome.Answer.TheVariants.{Text, Ends}
use Rattle.endings.specs.declared.outcome.Ending.{Ending}
use Rattle.endings.specs.declared.outcome.Ending.TheVariants.{Refused, NoMemory}
use Rattle.endings.specs.declared.outcome.Refusal.TheVariants.{NoCircuit}
use Rattle.ask_commands.specs.Circuits.{IsTextOfCircuit, IsHeldBy, IsUnmade, AnswersCircuit, AnswersBareCircuit}

-- an ending that says that no circuit was made, or that there was no memory
unmade : (ending : Ending) (is : Ending) → IsUnmade is → Ends ending ≡ Ends is → IsUnmade ending
unmade ending is none same = let e : ending ≡ is = cc in subst IsUnmade (sym e) none

pub circuit_answers : (s : Settings) (l : Parts) (words : List ℕ) (config : Config) (circuit : Result Netlist BuildFault) (answer : Answer) → IsHeldBy s l → HasSettings s config → words ≡ l.laid.words
    → IfOk circuit (IsCircuitOf words s.stack config) → IsTextOfCircuit circuit answer → AnswersCircuit s l answer
circuit_answers s l words config (Ok n) (Text text) held has same is says =
    (held, record { config = config; has = has; netlist = n; is_circuit = subst (λ (ws : List ℕ). IsCircuitOf ws s.stack config n) same is; says = says })
circuit_answers s l words config (Ok n) (Ends ending) held has same is says = inr (held, subst IsUnmade (sym says) tt)
circuit_answers s l words config (Err faults.Malformed) (Text text) held has same is says = absurd (cc)
circuit_answers s l words config (Err faults.Malformed) (Ends ending) held has same is says = inr (held, unmade ending (Refused NoCircuit) tt says)
circuit_answers s l words config (Err faults.NoMemory) (Text text) held has same is says = absurd (cc)
circuit_answers s l words config (Err faults.NoMemory) (Ends ending) held has same is says = inr (held, unmade ending NoMemory tt says)

pub bare_circuit_answers : (s : Settings) (image : BareContent) (config : Config) (circuit : Result Netlist BuildFault) (answer : Answer) → blocks_of_code s image ≤ s.blocks → HasSettings s config
    → IfOk circuit (IsBareCircuitOf image s.stack config) → IsTextOfCircuit circuit answer → AnswersBareCircuit s image answer
bare_circuit_answers s image config (Ok n) (Text text) fits has is says = (fits, record { config = config; has = has; netlist = n; is_circuit = is; says = says })
bare_circuit_answers s image config (Ok n) (Ends ending) fits has is says = inr (fits, subst IsUnmade (sym says) tt)
bare_circuit_answers s image config (Err faults.Malformed) (Text text) fits has is says = absurd (cc)
bare_circuit_answers s image config (Err faults.Malformed) (Ends ending) fits has is says = inr (fits, unmade ending (Refused NoCircuit) tt says)
bare_circuit_answers s image config (Err faults.NoMemory) (Text text) fits has is says = absurd (cc)
bare_circuit_answers s image config (Err faults.NoMemory) (Ends ending) fits has is says = inr (fits, unmade ending NoMemory tt says)
