-- What a netlist means, clock by clock.
--
-- A word is a number below 2 to the power of its net's width. All operators are those of IEEE 1364-2005, 5.1, on words without a sign, where both sides
-- of an assignment have one width.
--
-- A block RAM reads and writes at one edge. What it then gives at the place that is written differs by its maker: the old word, the new one, or neither.
-- So a clock brings from outside, beside the word of each input, one for each block RAM, `unknown`, which is what the RAM gives then, and beyond its last
-- word. A law about a circuit speaks of every such word, and so holds on each kind of block RAM.
use Rattle.std.specs.Prelude.{ℕ, ◌+◌, ◌-◌, ◌*◌, ◌/◌, ◌%◌, ◌^◌, Bool, ◌==◌, ◌&&◌, nat_lt, if◌then◌else◌, List, [], ◌∷◌, ◌++◌, map, length, replicate}
use Rattle.std.specs.Prelude.{slice_set, slice_index, slice_index_or, bit_and, bit_or, bit_xor}
use Rattle.std.specs.List.{zip}
use Rattle.netlist.specs.declared.net.BinaryOperator.{BinaryOperator}
use Rattle.netlist.specs.declared.net.BinaryOperator.TheVariants.{And, Or, Xor, Add, Sub, Mul, Equal, Less, Left, Right}
use Rattle.netlist.specs.declared.net.Driver.{Driver}
use Rattle.netlist.specs.declared.net.Driver.TheVariants.{Constant, Input, Register, ReadOut, Wire}
use Rattle.netlist.specs.declared.net.Net.{Net}
use Rattle.netlist.specs.declared.net.Expression.{Expression}
use Rattle.netlist.specs.declared.net.Expression.TheVariants.{Not, Binary, Part, Join, Choose, Table}
use Rattle.netlist.specs.declared.parts.BlockRam.{BlockRam}
use Rattle.netlist.specs.declared.parts.Netlist.{Netlist}

-- ---- the words at one clock

-- The word of each input, of each register, of each block RAM's output register, and of each wire so far.
pub record Words : Type 0 where
  pub inputs : List ℕ
  pub registers : List ℕ
  pub read_outs : List ℕ
  pub wires : List ℕ

abbrev pub driven : Words → Driver → ℕ
driven ws (Constant word) = word
driven ws (Input k) = slice_index ws.inputs k
driven ws (Register k) = slice_index ws.registers k
driven ws (ReadOut k) = slice_index ws.read_outs k
driven ws (Wire k) = slice_index ws.wires k

-- the word on a net
abbrev pub word_on : Words → Net → ℕ
word_on ws net = driven ws net.driver

abbrev pub bit_of : Bool → ℕ
bit_of b = if b then 1 else 0

-- what an operator makes of x, which has this width, and y
abbrev pub computed : BinaryOperator → (width x y : ℕ) → ℕ
computed And width x y = bit_and x y
computed Or width x y = bit_or x y
computed Xor width x y = bit_xor x y
computed Add width x y = (x + y) % 2 ^ width
computed Sub width x y = (x + (2 ^ width - y)) % 2 ^ width
computed Mul width x y = (x * y) % 2 ^ width
computed Equal width x y = bit_of (x == y)
computed Less width x y = bit_of (nat_lt x y)
computed Left width x y = (x * 2 ^ y) % 2 ^ width
computed Right width x y = x / 2 ^ y

-- what an expression makes of the words on its nets
abbrev pub result_of : Words → Expression → ℕ
result_of ws (Not x) = 2 ^ x.width - 1 - word_on ws x
result_of ws (Binary operator x y) = computed operator x.width (word_on ws x) (word_on ws y)
result_of ws (Part x low width) = word_on ws x / 2 ^ low % 2 ^ width
result_of ws (Join x y) = word_on ws x * 2 ^ y.width + word_on ws y
result_of ws (Choose c x y) = if word_on ws c == 1 then word_on ws x else word_on ws y
result_of ws (Table x width rows) = slice_index rows (word_on ws x)

-- the words with those of further wires, each from what stands before it
abbrev pub with_wires : Words → List Expression → Words
with_wires ws [] = ws
with_wires ws (expression ∷ expressions) = with_wires (record ws { wires = ws.wires ++ result_of ws expression ∷ [] }) expressions

-- ---- the state of a circuit

-- a block RAM: its words, and the word in its output register
pub record RamState : Type 0 where
  pub words : List ℕ
  pub read_out : ℕ

pub record Circuit : Type 0 where
  pub registers : List ℕ
  pub memories : List RamState

-- the words of all nets
abbrev pub words_of : Netlist → (inputs : List ℕ) → Circuit → Words
words_of n inputs c =
    with_wires (record { inputs = inputs; registers = c.registers; read_outs = map (λ (m : RamState). m.read_out) c.memories; wires = [] }) n.wires

-- ---- a clock's edge

abbrev pub is_written : Words → BlockRam → (place : ℕ) → Bool
is_written ws m place = word_on ws m.write.when == 1 && word_on ws m.write.place == place

-- A write beyond the last word changes nothing.
abbrev pub written : Words → BlockRam → (words : List ℕ) → List ℕ
written ws m words = if word_on ws m.write.when == 1 then slice_set words (word_on ws m.write.place) (word_on ws m.write.word) else words

abbrev pub word_read : Words → BlockRam → (words : List ℕ) → (place unknown : ℕ) → ℕ
word_read ws m words place unknown = if is_written ws m place then unknown else slice_index_or words place unknown

abbrev pub clocked_ram : Words → BlockRam × (RamState × ℕ) → RamState
clocked_ram ws (m, (old, unknown)) = record {
  words = written ws m old.words;
  read_out = if word_on ws m.read.when == 1 then word_read ws m old.words (word_on ws m.read.place) unknown else old.read_out;
}

-- What comes from outside at a clock: the word of each input, and what each block RAM gives where its place doesn't tell.
pub record AClock : Type 0 where
  pub inputs : List ℕ
  pub unknown : List ℕ

-- one clock
abbrev pub clocked : Netlist → AClock → Circuit → Circuit
clocked n clock c =
    let ws = words_of n clock.inputs c in
    record {
      registers = map (λ r. word_on ws r.next) n.registers;
      memories = map (clocked_ram ws) (zip n.memories (zip c.memories clock.unknown));
    }

-- what the circuit puts out before a clock's edge
abbrev pub put_out : Netlist → (inputs : List ℕ) → Circuit → List ℕ
put_out n inputs c = map (λ port. word_on (words_of n inputs c) port.net) n.outputs

abbrev pub first_ram : BlockRam × ℕ → RamState
first_ram (m, unknown) = record { words = m.first ++ replicate (m.words - length m.first) 0; read_out = unknown }

-- The circuit at the start. What the output registers of its block RAMs have then isn't known.
abbrev pub started : Netlist → (unknown : List ℕ) → Circuit
started n unknown = record { registers = map (λ r. r.first) n.registers; memories = map first_ram (zip n.memories unknown) }

-- clock after clock
abbrev pub run : Netlist → List AClock → Circuit → Circuit
run n [] c = c
run n (clock ∷ clocks) c = run n clocks (clocked n clock c)
