use Rattle.std.proofs.Common.{◌≡◌, ◌++◌, ap, ◌∙◌}
use Rattle.std.specs.Prelude.{flat_map, codes}
use Rattle.netlist_text.specs.Text.{each_from, head_text, state_text, wire_text, put_text, edge_text}
use Rattle.netlist_text.proofs.Texts.{behind}
use Rattle.netlist_text.proofs.text.put_netlist.Goals as goal

pub returns : goal.returns
returns c =
    let n = c.args.n.now in
    let start = c.args.out.now.items in
    let wires = each_from wire_text 0 n.wires in
    let outputs = flat_map put_text n.outputs in
    let wires_put : c.put_wires.new.out.items ≡ c.put_state.new.out.items ++ wires =
    c.in_ok-put_wires.ensures ∙ ap (λ l. c.put_state.new.out.items ++ each_from wire_text 0 l) c.as_slice.ensures in
    let outputs_put : c.put_all_assigned.new.out.items ≡ c.put_wires.new.out.items ++ outputs =
    c.in_ok-put_all_assigned.ensures ∙ ap (λ l. c.put_wires.new.out.items ++ flat_map put_text l) c.as_slice-2.ensures in
    let state = behind start (head_text n) (state_text n) c.in_ok-put_head.ensures c.in_ok-put_state.ensures in
    let drawn = behind start (head_text n ++ state_text n) wires state wires_put in
    let put = behind start (head_text n ++ state_text n ++ wires) outputs drawn outputs_put in
    let edge = behind start (head_text n ++ state_text n ++ wires ++ outputs) (edge_text n) put c.in_ok-put_edge.ensures in
    behind start (head_text n ++ state_text n ++ wires ++ outputs ++ edge_text n) (codes "endmodule\n") edge c.in_ok-put.ensures
