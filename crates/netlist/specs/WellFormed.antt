-- Which netlists are well formed: each name stands for something, widths agree, and words are within theirs.
use Rattle.std.specs.Prelude.{◌≡◌, ◌≢◌, ◌⊎◌, ℕ, ◌+◌, ◌^◌, ◌<◌, ◌≤◌, ⊤, List, [], ◌∷◌, ◌++◌, map, length, take, slice_get, Some, codes}
use Rattle.std.specs.List.{All, AllPairs, AllZip}
use Rattle.netlist.specs.declared.net.BinaryOperator.{BinaryOperator}
use Rattle.netlist.specs.declared.net.BinaryOperator.TheVariants.{Equal, Less, Left, Right}
use Rattle.netlist.specs.declared.net.Driver.{Driver}
use Rattle.netlist.specs.declared.net.Driver.TheVariants.{Constant, Input, Register, ReadOut, Wire}
use Rattle.netlist.specs.declared.net.Net.{Net}
use Rattle.netlist.specs.declared.net.Expression.{Expression}
use Rattle.netlist.specs.declared.net.Expression.TheVariants.{Not, Binary, Part, Join, Choose, Table}
use Rattle.netlist.specs.declared.parts.BlockRam.{BlockRam}
use Rattle.netlist.specs.declared.parts.Netlist.{Netlist}
use Rattle.netlist.specs.Meaning.{AClock, Circuit, RamState}

-- ---- widths

-- The width of each input, of each register, of each block RAM's words, and of each wire so far.
pub record Widths : Type 0 where
  pub inputs : List ℕ
  pub registers : List ℕ
  pub read_outs : List ℕ
  pub wires : List ℕ

abbrev pub width_computed : BinaryOperator → ℕ → ℕ
width_computed Equal width = 1
width_computed Less width = 1
width_computed operator width = width

abbrev pub width_of : Expression → ℕ
width_of (Not x) = x.width
width_of (Binary operator x y) = width_computed operator x.width
width_of (Part x low width) = width
width_of (Join x y) = x.width + y.width
width_of (Choose c x y) = x.width
width_of (Table x width rows) = width

-- those of a netlist, where so many of its wires stand before
abbrev pub widths_before : ℕ → Netlist → Widths
widths_before count n = record {
  inputs = map (λ port. port.width) n.inputs;
  registers = map (λ r. r.next.width) n.registers;
  read_outs = map (λ m. m.write.word.width) n.memories;
  wires = map width_of (take count n.wires);
}

abbrev pub widths_in : Netlist → Widths
widths_in n = widths_before (length n.wires) n

-- ---- nets and expressions

abbrev pub IsWidth : ℕ → Type 0
IsWidth width = (1 ≤ width) × (width ≤ 64)

-- What drives the net is there, and has its width.
abbrev pub Drives : Widths → Driver → ℕ → Type 0
Drives ws (Constant word) width = word < 2 ^ width
Drives ws (Input k) width = slice_get ws.inputs k ≡ Some width
Drives ws (Register k) width = slice_get ws.registers k ≡ Some width
Drives ws (ReadOut k) width = slice_get ws.read_outs k ≡ Some width
Drives ws (Wire k) width = slice_get ws.wires k ≡ Some width

pub record IsNet (ws : Widths) (net : Net) : Type 0 where
  pub width : IsWidth net.width
  pub driver : Drives ws net.driver net.width

pub record IsBit (ws : Widths) (net : Net) : Type 0 where
  pub one : net.width ≡ 1
  pub is_net : IsNet ws net

-- IEEE 1364-2005, 5.2.1: a part is selected of a name, and not of a number.
abbrev pub IsNamed : Driver → Type 0
IsNamed (Constant word) = ⊥
IsNamed driver = ⊤

-- The operands of an operator have one width. How far to shift may have any up to 32, the most that Verilator reads.
abbrev pub WidthsAgree : BinaryOperator → (x y : ℕ) → Type 0
WidthsAgree Left x y = y ≤ 32
WidthsAgree Right x y = y ≤ 32
WidthsAgree operator x y = x ≡ y

abbrev pub IsExpression : Widths → Expression → Type 0
IsExpression ws (Not x) = IsNet ws x
IsExpression ws (Binary operator x y) = IsNet ws x × IsNet ws y × WidthsAgree operator x.width y.width
IsExpression ws (Part x low width) = IsNet ws x × IsNamed x.driver × (1 ≤ width) × (low + width ≤ x.width)
IsExpression ws (Join x y) = IsNet ws x × IsNet ws y × (x.width + y.width ≤ 64)
IsExpression ws (Choose c x y) = IsBit ws c × IsNet ws x × IsNet ws y × (x.width ≡ y.width)
IsExpression ws (Table x width rows) = IsNet ws x × IsWidth width × (x.width ≤ 16) × (length rows ≡ 2 ^ x.width) × All (λ row. row < 2 ^ width) rows

-- each stands on what is there before it
abbrev pub AreWires : Widths → List Expression → Type 0
AreWires ws [] = ⊤
AreWires ws (expression ∷ expressions) =
    IsExpression ws expression × AreWires (record ws { wires = ws.wires ++ width_of expression ∷ [] }) expressions

-- ---- the parts of a netlist

pub record IsBlockRam (ws : Widths) (m : BlockRam) : Type 0 where
  pub writes : IsBit ws m.write.when
  pub write_place : IsNet ws m.write.place
  pub word : IsNet ws m.write.word
  pub reads : IsBit ws m.read.when
  pub read_place : IsNet ws m.read.place
  pub places : m.read.place.width ≡ m.write.place.width
  pub some : 1 ≤ m.words
  -- the words are counted by an `integer` of the text
  pub few : (m.words ≤ 2 ^ m.write.place.width) × (m.words < 2 ^ 31)
  pub first : (length m.first ≤ m.words) × All (λ word. word < 2 ^ m.write.word.width) m.first

-- lower-case letters and underscores
abbrev pub IsName : List ℕ → Type 0
IsName name = (1 ≤ length name) × All (λ c. ((97 ≤ c) × (c ≤ 122)) ⊎ (c ≡ 95)) name

-- the names in the module, its clock's and those of its ports
abbrev pub names_in : Netlist → List (List ℕ)
names_in n = codes "clk" ∷ (map (λ port. port.name) n.inputs ++ map (λ port. port.name) n.outputs)

-- A netlist is well formed. No name is to be a word that Verilog or SystemVerilog reserves; that is for who gives the names.
pub record IsNetlist (n : Netlist) : Type 0 where
  pub name : IsName n.name
  pub names : All IsName (names_in n)
  pub distinct : AllPairs (λ a b. a ≢ b) (names_in n)
  pub inputs : All (λ port. IsWidth port.width) n.inputs
  pub wires : AreWires (widths_before 0 n) n.wires
  pub registers : All (λ r. IsNet (widths_in n) r.next × (r.first < 2 ^ r.next.width)) n.registers
  pub memories : All (IsBlockRam (widths_in n)) n.memories
  pub outputs : All (λ port. IsNet (widths_in n) port.net) n.outputs

-- ---- words within their widths

-- as many words as widths, each within its own
abbrev pub Fit : (widths words : List ℕ) → Type 0
Fit widths words = AllZip (λ width word. word < 2 ^ width) widths words

pub record IsRam (m : BlockRam) (c : RamState) : Type 0 where
  pub many : length c.words ≡ m.words
  pub words : All (λ word. word < 2 ^ m.write.word.width) c.words
  pub read_out : c.read_out < 2 ^ m.write.word.width

-- a state that the circuit can have
pub record IsStateOf (n : Netlist) (c : Circuit) : Type 0 where
  pub registers : Fit (map (λ r. r.next.width) n.registers) c.registers
  pub memories : AllZip IsRam n.memories c.memories

-- what can come from outside at a clock
pub record IsClockOf (n : Netlist) (clock : AClock) : Type 0 where
  pub inputs : Fit (map (λ port. port.width) n.inputs) clock.inputs
  pub unknown : Fit (map (λ m. m.write.word.width) n.memories) clock.unknown
