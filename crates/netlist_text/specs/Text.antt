-- The text of a netlist in Verilog-2005 (IEEE 1364-2005).
--
-- Each net is a vector without a sign (`[0:0]` for one bit), each number has its width and no sign. A line assigns one expression, and both sides have
-- one width, so no operand is extended or cut (5.4, 5.5). Left aside are how far to shift, the place in an array, and the index of a loop, which stand by
-- themselves and may have any width. The names are a letter and a number, and so no word that Verilog or SystemVerilog reserves.
use Rattle.std.specs.Prelude.{ℕ, ◌+◌, ◌-◌, List, [], ◌∷◌, ◌++◌, length, flat_map, codes, decimal}
use Rattle.netlist.specs.declared.net.BinaryOperator.{BinaryOperator}
use Rattle.netlist.specs.declared.net.BinaryOperator.TheVariants.{And, Or, Xor, Add, Sub, Mul, Equal, Less, Left, Right}
use Rattle.netlist.specs.declared.net.Driver.{Driver}
use Rattle.netlist.specs.declared.net.Driver.TheVariants.{Constant, Input, Register, ReadOut, Wire}
use Rattle.netlist.specs.declared.net.Net.{Net}
use Rattle.netlist.specs.declared.net.Expression.{Expression}
use Rattle.netlist.specs.declared.net.Expression.TheVariants.{Not, Binary, Part, Join, Choose, Table}
use Rattle.netlist.specs.declared.parts.BlockRam.{BlockRam}
use Rattle.netlist.specs.declared.parts.InputPort.{InputPort}
use Rattle.netlist.specs.declared.parts.OutputPort.{OutputPort}
use Rattle.netlist.specs.declared.parts.Register as register
use Rattle.netlist.specs.declared.parts.Netlist.{Netlist}
use Rattle.netlist.specs.WellFormed.{width_of}

-- the texts of items one after another, each with its number, from this one on
abbrev pub each_from : {A : Type 0} → (text : ℕ → A → List ℕ) → ℕ → List A → List ℕ
each_from text k [] = []
each_from text k (x ∷ xs) = text k x ++ each_from text (k + 1) xs

-- which bits there are
abbrev pub range_text : ℕ → List ℕ
range_text width = codes " [" ++ decimal (width - 1) ++ codes ":0] "

-- a word of so many bits
abbrev pub number_text : (width word : ℕ) → List ℕ
number_text width word = decimal width ++ codes "'d" ++ decimal word

-- what is declared: its kind, its bits, its letter and its number
abbrev pub declared_text : (kind : List ℕ) → (width : ℕ) → (letter : List ℕ) → ℕ → List ℕ
declared_text kind width letter k = kind ++ range_text width ++ letter ++ decimal k

-- the end of a line that gives a word to what stands before it
abbrev pub given_word : (before : List ℕ) → (width word : ℕ) → List ℕ
given_word before width word = before ++ number_text width word ++ codes ";\n"

-- ---- expressions

abbrev pub driver_text : ℕ → Driver → List ℕ
driver_text width (Constant word) = number_text width word
driver_text width (Input k) = codes "i" ++ decimal k
driver_text width (Register k) = codes "r" ++ decimal k
driver_text width (ReadOut k) = codes "q" ++ decimal k
driver_text width (Wire k) = codes "w" ++ decimal k

abbrev pub net_text : Net → List ℕ
net_text net = driver_text net.width net.driver

abbrev pub operator_text : BinaryOperator → List ℕ
operator_text And = codes " & "
operator_text Or = codes " | "
operator_text Xor = codes " ^ "
operator_text Add = codes " + "
operator_text Sub = codes " - "
operator_text Mul = codes " * "
operator_text Equal = codes " == "
operator_text Less = codes " < "
operator_text Left = codes " << "
operator_text Right = codes " >> "

-- The expression of wire k. Its table is the function `tk`.
abbrev pub expression_text : ℕ → Expression → List ℕ
expression_text k (Not x) = codes "~" ++ net_text x
expression_text k (Binary operator x y) = net_text x ++ operator_text operator ++ net_text y
expression_text k (Part x low width) = net_text x ++ codes "[" ++ decimal (low + width - 1) ++ codes ":" ++ decimal low ++ codes "]"
expression_text k (Join x y) = codes "{" ++ net_text x ++ codes ", " ++ net_text y ++ codes "}"
expression_text k (Choose c x y) = net_text c ++ codes " ? " ++ net_text x ++ codes " : " ++ net_text y
expression_text k (Table x width rows) = codes "t" ++ decimal k ++ codes "(" ++ net_text x ++ codes ")"

-- ---- wires

-- a row of the table of wire k
abbrev pub row_text : (k place_width width row word : ℕ) → List ℕ
row_text k place_width width row word = codes "            " ++ number_text place_width row ++ codes ": t" ++ decimal k ++ given_word (codes " = ") width word

-- A table is a function of Verilog, with each of its rows.
abbrev pub function_text : ℕ → Net → (width : ℕ) → (rows : List ℕ) → List ℕ
function_text k x width rows =
    declared_text (codes "    function") width (codes "t") k
    ++ (codes ";\n        input" ++ range_text x.width ++ codes "place;\n        case (place)\n")
    ++ each_from (row_text k x.width width) 0 rows
    ++ codes "        endcase\n    endfunction\n"

abbrev pub table_text : ℕ → Expression → List ℕ
table_text k (Table x width rows) = function_text k x width rows
table_text k expression = []

abbrev pub wire_line : ℕ → Expression → List ℕ
wire_line k expression =
    declared_text (codes "    wire") (width_of expression) (codes "w") k ++ (codes " = " ++ expression_text k expression ++ codes ";\n")

abbrev pub wire_text : ℕ → Expression → List ℕ
wire_text k expression = table_text k expression ++ wire_line k expression

-- ---- ports and registers

abbrev pub input_text : InputPort → List ℕ
input_text port = codes ",\n    input" ++ range_text port.width ++ port.name

abbrev pub output_text : OutputPort → List ℕ
output_text port = codes ",\n    output" ++ range_text port.net.width ++ port.name

-- an input, under the name that expressions have for it
abbrev pub given_text : ℕ → InputPort → List ℕ
given_text k port = declared_text (codes "    wire") port.width (codes "i") k ++ (codes " = " ++ port.name ++ codes ";\n")

abbrev pub put_text : OutputPort → List ℕ
put_text port = codes "    assign " ++ port.name ++ codes " = " ++ net_text port.net ++ codes ";\n"

abbrev pub register_text : ℕ → register.Register → List ℕ
register_text k r = declared_text (codes "    reg") r.next.width (codes "r") k ++ given_word (codes " = ") r.next.width r.first

-- ---- block RAMs

-- the places behind the first words are 0
abbrev pub zeros_text : ℕ → BlockRam → List ℕ
zeros_text k m =
    codes "        for (k" ++ decimal k ++ codes " = " ++ decimal (length m.first) ++ codes "; k" ++ decimal k ++ codes " < " ++ decimal m.words
    ++ (codes "; k" ++ decimal k ++ codes " = k" ++ decimal k ++ codes " + 1) m" ++ decimal k ++ codes "[k" ++ decimal k
    ++ given_word (codes "] = ") m.write.word.width 0)

abbrev pub first_text : (k width place word : ℕ) → List ℕ
first_text k width place word = codes "        m" ++ decimal k ++ codes "[" ++ decimal place ++ given_word (codes "] = ") width word

abbrev pub ram_text : ℕ → BlockRam → List ℕ
ram_text k m =
    declared_text (codes "    reg") m.write.word.width (codes "m") k ++ codes " [0:" ++ decimal (m.words - 1) ++ codes "];\n"
    ++ (declared_text (codes "    reg") m.write.word.width (codes "q") k ++ codes ";\n    integer k" ++ decimal k ++ codes ";\n    initial begin\n")
    ++ (zeros_text k m ++ each_from (first_text k m.write.word.width) 0 m.first ++ codes "    end\n")

-- ---- the clock's edge

abbrev pub next_text : ℕ → register.Register → List ℕ
next_text k r = codes "        r" ++ decimal k ++ codes " <= " ++ net_text r.next ++ codes ";\n"

abbrev pub write_text : ℕ → BlockRam → List ℕ
write_text k m =
    codes "        if (" ++ net_text m.write.when ++ codes ") m" ++ decimal k ++ codes "[" ++ net_text m.write.place
    ++ codes "] <= " ++ net_text m.write.word ++ codes ";\n"

-- whether the place that is read is written
abbrev pub clash_text : BlockRam → List ℕ
clash_text m = net_text m.write.when ++ codes " & (" ++ net_text m.write.place ++ codes " == " ++ net_text m.read.place ++ codes ")"

-- What is read at the place that is written is any word: `x` says so, and a synthesiser need not see to it.
abbrev pub read_text : ℕ → BlockRam → List ℕ
read_text k m =
    codes "        if (" ++ net_text m.read.when ++ codes ") q" ++ decimal k ++ codes " <= " ++ clash_text m
    ++ (codes " ? " ++ decimal m.write.word.width ++ codes "'bx : m" ++ decimal k ++ codes "[" ++ net_text m.read.place ++ codes "];\n")

abbrev pub edge_text : Netlist → List ℕ
edge_text n =
    codes "    always @(posedge clk) begin\n"
    ++ each_from next_text 0 n.registers ++ each_from write_text 0 n.memories ++ each_from read_text 0 n.memories
    ++ codes "    end\n"

-- ---- the module

abbrev pub head_text : Netlist → List ℕ
head_text n = codes "module " ++ n.name ++ codes "(\n    input clk" ++ flat_map input_text n.inputs ++ flat_map output_text n.outputs ++ codes "\n);\n"

abbrev pub state_text : Netlist → List ℕ
state_text n = each_from given_text 0 n.inputs ++ each_from register_text 0 n.registers ++ each_from ram_text 0 n.memories

abbrev pub text_of : Netlist → List ℕ
text_of n = head_text n ++ state_text n ++ each_from wire_text 0 n.wires ++ flat_map put_text n.outputs ++ edge_text n ++ codes "endmodule\n"
