-- Netlists that were worked out by hand, and what they do.
use Rattle.std.specs.Prelude.{◌≡◌, ℕ, List, [], ◌∷◌, codes}
use Rattle.netlist.specs.declared.net.BinaryOperator.TheVariants.{And, Or, Xor, Add, Sub, Mul, Equal, Less, Left, Right}
use Rattle.netlist.specs.declared.net.Driver.TheVariants.{Constant, Input, Register, ReadOut, Wire}
use Rattle.netlist.specs.declared.net.Net.{Net}
use Rattle.netlist.specs.declared.net.Expression.{Expression}
use Rattle.netlist.specs.declared.net.Expression.TheVariants.{Not, Binary, Part, Join, Choose, Table}
use Rattle.netlist.specs.declared.parts.Netlist.{Netlist}
use Rattle.netlist.specs.Meaning.{AClock, Circuit, result_of, started, put_out, run}

abbrev pub input : (width k : ℕ) → Net
input width k = record { width = width; driver = Input k }

abbrev pub clock_of : (inputs unknown : List ℕ) → AClock
clock_of inputs unknown = record { inputs = inputs; unknown = unknown }

-- ---- expressions, of a = 12 and b = 10 in four bits and c = 1 in one

abbrev pub of_rows : Expression → ℕ
of_rows expression = result_of (record { inputs = 12 ∷ 10 ∷ 1 ∷ []; registers = []; read_outs = []; wires = [] }) expression

abbrev pub a : Net
a = input 4 0

abbrev pub b : Net
b = input 4 1

abbrev pub c : Net
c = input 1 2

abbrev pub ExpressionRows : Type 0
ExpressionRows =
    (of_rows (Not a) ≡ 3) × (of_rows (Binary And a b) ≡ 8) × (of_rows (Binary Or a b) ≡ 14) × (of_rows (Binary Xor a b) ≡ 6)
    × (of_rows (Binary Add a b) ≡ 6) × (of_rows (Binary Sub a b) ≡ 2) × (of_rows (Binary Sub b a) ≡ 14) × (of_rows (Binary Mul a b) ≡ 8)
    × (of_rows (Binary Equal a b) ≡ 0) × (of_rows (Binary Equal a a) ≡ 1) × (of_rows (Binary Less a b) ≡ 0) × (of_rows (Binary Less b a) ≡ 1)
    × (of_rows (Binary Left a c) ≡ 8) × (of_rows (Binary Left a b) ≡ 0) × (of_rows (Binary Right a c) ≡ 6) × (of_rows (Binary Right a b) ≡ 0)
    × (of_rows (Part a 1 3) ≡ 6) × (of_rows (Part a 0 3) ≡ 4) × (of_rows (Join c a) ≡ 28) × (of_rows (Join a c) ≡ 25)
    × (of_rows (Choose c a b) ≡ 12) × (of_rows (Table c 8 (70 ∷ 90 ∷ [])) ≡ 90)

-- ---- a counter of eight bits

abbrev pub counter : Netlist
counter = record {
  name = codes "counter";
  inputs = [];
  wires = Binary Add (record { width = 8; driver = Register 0 }) (record { width = 8; driver = Constant 1 }) ∷ [];
  registers = record { first = 254; next = record { width = 8; driver = Wire 0 } } ∷ [];
  memories = [];
  outputs = record { name = codes "count"; net = record { width = 8; driver = Register 0 } } ∷ [];
}

abbrev pub CounterRows : Type 0
CounterRows =
    let begun = started counter [] in
    let once = clock_of [] [] in
    (put_out counter [] begun ≡ 254 ∷ []) × (put_out counter [] (run counter (once ∷ []) begun) ≡ 255 ∷ [])
    × (put_out counter [] (run counter (once ∷ once ∷ []) begun) ≡ 0 ∷ [])
    × (put_out counter [] (run counter (once ∷ once ∷ once ∷ []) begun) ≡ 1 ∷ [])

-- ---- a block RAM of three words, with its ports handed out

abbrev pub ram : Netlist
ram = record {
  name = codes "ram";
  inputs = record { name = codes "write"; width = 1 } ∷ record { name = codes "write_place"; width = 2 } ∷ record { name = codes "word"; width = 8 }
      ∷ record { name = codes "read"; width = 1 } ∷ record { name = codes "read_place"; width = 2 } ∷ [];
  wires = [];
  registers = [];
  memories = record {
    words = 3;
    first = 5 ∷ 6 ∷ [];
    write = record { when = input 1 0; place = input 2 1; word = input 8 2 };
    read = record { when = input 1 3; place = input 2 4 };
  } ∷ [];
  outputs = record { name = codes "read_out"; net = record { width = 8; driver = ReadOut 0 } } ∷ [];
}

-- the words after some clocks, and the word that was read
abbrev pub ram_after : List AClock → Circuit
ram_after clocks = run ram clocks (started ram (77 ∷ []))

abbrev pub ram_is : (words : List ℕ) → (read_out : ℕ) → Circuit
ram_is words read_out = record { registers = []; memories = record { words = words; read_out = read_out } ∷ [] }

abbrev pub RamRows : Type 0
RamRows =
    -- at the start the output register has any word, and then the word that is read, or what it had
    (ram_after [] ≡ ram_is (5 ∷ 6 ∷ 0 ∷ []) 77)
    × (ram_after (clock_of (0 ∷ 0 ∷ 9 ∷ 1 ∷ 1 ∷ []) (88 ∷ []) ∷ []) ≡ ram_is (5 ∷ 6 ∷ 0 ∷ []) 6)
    × (ram_after (clock_of (0 ∷ 0 ∷ 9 ∷ 0 ∷ 1 ∷ []) (88 ∷ []) ∷ []) ≡ ram_is (5 ∷ 6 ∷ 0 ∷ []) 77)
    -- a place is read while another is written; the word that was written is read a clock later
    × (ram_after (clock_of (1 ∷ 0 ∷ 9 ∷ 1 ∷ 1 ∷ []) (88 ∷ []) ∷ []) ≡ ram_is (9 ∷ 6 ∷ 0 ∷ []) 6)
    × (ram_after (clock_of (1 ∷ 0 ∷ 9 ∷ 0 ∷ 0 ∷ []) (88 ∷ []) ∷ clock_of (0 ∷ 0 ∷ 0 ∷ 1 ∷ 0 ∷ []) (88 ∷ []) ∷ []) ≡ ram_is (9 ∷ 6 ∷ 0 ∷ []) 9)
    -- the place that is written, or one beyond the words, gives any word; a write beyond them changes nothing
    × (ram_after (clock_of (1 ∷ 0 ∷ 9 ∷ 1 ∷ 0 ∷ []) (88 ∷ []) ∷ []) ≡ ram_is (9 ∷ 6 ∷ 0 ∷ []) 88)
    × (ram_after (clock_of (0 ∷ 0 ∷ 9 ∷ 1 ∷ 3 ∷ []) (88 ∷ []) ∷ []) ≡ ram_is (5 ∷ 6 ∷ 0 ∷ []) 88)
    × (ram_after (clock_of (1 ∷ 3 ∷ 9 ∷ 0 ∷ 0 ∷ []) (88 ∷ []) ∷ []) ≡ ram_is (5 ∷ 6 ∷ 0 ∷ []) 77)

abbrev pub AreWorked : Type 0
AreWorked = ExpressionRows × CounterRows × RamRows
