-- What holds of logic, while it is made and when it is finished.
use Rattle.std.specs.Prelude.{◌≡◌, ℕ, false, List, [], map}
use Rattle.netlist.specs.declared.net.Expression.{Expression}
use Rattle.netlist.specs.declared.net.Net.{Net}
use Rattle.netlist.specs.declared.parts.Netlist.{Netlist}
use Rattle.netlist.specs.Meaning.{Circuit, words_of}
use Rattle.netlist.specs.WellFormed.{Widths, width_of, IsWidth, IsNet, IsExpression, AreWires, IsNetlist}
use Rattle.circuit_build.specs.Wiring.{Wiring, IsSettled, Adds}

-- the wires of a netlist, all there
abbrev pub wiring_of : Netlist → Wiring
wiring_of n = record { wires = n.wires; lacks = false }

-- At each clock the words of a well-formed netlist are words in which its logic is settled.
abbrev pub LogicSettles : Type 0
LogicSettles = (n : Netlist) → IsNetlist n → (inputs : List ℕ) (c : Circuit) → IsSettled (wiring_of n) (words_of n inputs c)

-- the widths of the parts, and of the wires so far
abbrev pub widths_with : Widths → Wiring → Widths
widths_with parts logic = record parts { wires = map width_of logic.wires }

-- Logic is well formed: each wire stands on what is there before it.
abbrev pub IsLogic : Widths → Wiring → Type 0
IsLogic parts logic = AreWires (record parts { wires = [] }) logic.wires

-- What is added to well-formed logic and is well formed keeps it so; its net is there then, and so is each net that was.
pub record StaysWell (parts : Widths) (old new : Wiring) (added : Net) (e : Expression) : Type 0 where
  pub logic : IsLogic parts new
  pub net : added.width ≡ width_of e → IsWidth added.width → IsNet (widths_with parts new) added
  pub others : (other : Net) → IsNet (widths_with parts old) other → IsNet (widths_with parts new) other

-- Well-formed logic came of well-formed logic, this net is there then, and so is each net that was.
pub record Grows (parts : Widths) (old new : Wiring) (made : Net) : Type 0 where
  pub logic : IsLogic parts new
  pub net : IsNet (widths_with parts new) made
  pub others : (other : Net) → IsNet (widths_with parts old) other → IsNet (widths_with parts new) other

abbrev pub WellFormedGrows : Type 0
WellFormedGrows = (parts : Widths) (old new : Wiring) (net : Net) (e : Expression) → Adds old new net e → new.lacks ≡ false
    → IsLogic parts old → IsExpression (widths_with parts old) e → StaysWell parts old new net e
