-- What the parts of a circuit in the making are seen as, and what becomes of them and of its logic.
use Rattle.std.specs.Prelude.{◌≡◌, ℕ, zero, suc, Bool, false, List, [], ◌∷◌, Result, Ok, Err, ⊤}
use Rattle.netlist.specs.declared.net.Driver.{Driver}
use Rattle.netlist.specs.declared.net.Driver.TheVariants.{Constant, Input, Register, ReadOut}
use Rattle.netlist.specs.declared.net.Net.{Net}
use Rattle.netlist.specs.declared.parts.InputPort.{InputPort}
use Rattle.netlist.specs.declared.parts.OutputPort.{OutputPort}
use Rattle.netlist.specs.declared.parts.Register as register
use Rattle.netlist.specs.declared.parts.BlockRam.{BlockRam}
use Rattle.netlist.specs.declared.parts.ReadPort.{ReadPort}
use Rattle.netlist.specs.declared.parts.WritePort.{WritePort}
use Rattle.netlist.specs.declared.parts.Netlist.{Netlist}
use Rattle.netlist.specs.WellFormed.{IsNetlist}
use Rattle.circuit_build.specs.declared.finishing.BuildFault.{BuildFault}
use Rattle.circuit_build.specs.declared.finishing.BuildFault.TheVariants.{Malformed, NoMemory}
use Rattle.circuit_build.specs.Wiring.{Wiring}

-- Parts in the making: those so far, and whether memory lacked for one of them.
pub record PartLists : Type 0 where
  pub inputs : List InputPort
  pub registers : List register.Register
  pub memories : List BlockRam
  pub outputs : List OutputPort
  pub lacks : Bool

-- the nets of parts, by their numbers
abbrev pub input_net : (width k : ℕ) → Net
input_net width k = record { width = width; driver = Input k }

abbrev pub register_net : (width k : ℕ) → Net
register_net width k = record { width = width; driver = Register k }

abbrev pub read_out_net : (width k : ℕ) → Net
read_out_net width k = record { width = width; driver = ReadOut k }

abbrev pub constant_net : (width word : ℕ) → Net
constant_net width word = record { width = width; driver = Constant word }

-- a block RAM that neither writes nor reads
abbrev pub idle_ram : (words width : ℕ) → (first : List ℕ) → BlockRam
idle_ram words width first = record {
  words = words;
  first = first;
  write = record { when = constant_net 1 0; place = constant_net 1 0; word = constant_net width 0 };
  read = record { when = constant_net 1 0; place = constant_net 1 0 };
}

-- registers, of which that with this number has this next word
abbrev pub with_next : List register.Register → ℕ → Net → List register.Register
with_next [] k next = []
with_next (r ∷ rs) zero next = record r { next = next } ∷ rs
with_next (r ∷ rs) (suc k) next = r ∷ with_next rs k next

-- block RAMs, of which that with this number has these ports
abbrev pub with_ports : List BlockRam → ℕ → WritePort → ReadPort → List BlockRam
with_ports [] k write read = []
with_ports (m ∷ ms) zero write read = record m { write = write; read = read } ∷ ms
with_ports (m ∷ ms) (suc k) write read = m ∷ with_ports ms k write read

-- parts, of which the register with this net has this next word
abbrev pub next_set : PartLists → Driver → Net → PartLists
next_set parts (Register k) next = record parts { registers = with_next parts.registers k next }
next_set parts driver next = parts

-- parts, of which the block RAM with this net has these ports
abbrev pub ports_set : PartLists → Driver → WritePort → ReadPort → PartLists
ports_set parts (ReadOut k) write read = record parts { memories = with_ports parts.memories k write read }
ports_set parts driver write read = parts

-- the circuit of logic and parts
abbrev pub netlist_of : (name : List ℕ) → PartLists → Wiring → Netlist
netlist_of name parts logic = record {
  name = name;
  inputs = parts.inputs;
  wires = logic.wires;
  registers = parts.registers;
  memories = parts.memories;
  outputs = parts.outputs;
}

-- What comes of parts and logic: nothing lacks, and it is their circuit, which is well formed; or it isn't, where nothing lacks; or memory lacks, there
-- or for the circuit.
abbrev pub Finished : (name : List ℕ) → PartLists → Wiring → Result Netlist BuildFault → Type 0
Finished name parts logic (Ok n) = (parts.lacks ≡ false) × (logic.lacks ≡ false) × (n ≡ netlist_of name parts logic) × IsNetlist n
Finished name parts logic (Err Malformed) = (parts.lacks ≡ false) × (logic.lacks ≡ false) × ¬ IsNetlist (netlist_of name parts logic)
Finished name parts logic (Err NoMemory) = ⊤
