-- A text that was written by hand.
use Rattle.std.specs.Prelude.{◌≡◌, ◌++◌, codes}
use Rattle.netlist.specs.Examples.{counter}
use Rattle.netlist_text.specs.Text.{text_of}

abbrev pub CounterText : Type 0
CounterText =
    text_of counter
    ≡ codes "module counter(\n    input clk,\n    output [7:0] count\n);\n    reg [7:0] r0 = 8'd254;\n    wire [7:0] w0 = r0 + 8'd1;\n"
    ++ codes "    assign count = r0;\n    always @(posedge clk) begin\n        r0 <= w0;\n    end\nendmodule\n"
