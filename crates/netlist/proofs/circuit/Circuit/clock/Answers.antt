use Rattle.std.proofs.Common.{◌≡◌, List, map, length, sym, ap, ◌∙◌, subst}
use Rattle.std.specs.Vec.{with_items}
use Rattle.std.proofs.lemmas.List.{length-map, with_items_is}
use Rattle.netlist.specs.Meaning.{Circuit, RamState, words_of}
use Rattle.netlist.specs.Evaluation.{ports_of, all_after}
use Rattle.netlist.specs.WellFormed.{IsStateOf}
use Rattle.netlist.proofs.Edges.{all_as_many, clock_is, as_many_rams, as_many_unknown}
use Rattle.netlist.proofs.Ranges.{clock_within}
use Rattle.netlist.proofs.circuit.Circuit.clock.Goals as goal

pub pass_edges-requires-clause-ports : goal.pass_edges-requires-clause-ports
pass_edges-requires-clause-ports c =
    let n = c.args.n.now in
    let rams : c.deref_mut.result.now ≡ c.args.self.now.memories = c.deref_mut.ensures.value ∙ ap (λ (x : Circuit). x.memories) c.self.view_is in
    let ports : c.deref.result.now ≡ map (ports_of (words_of n c.args.inputs.now c.args.self.now)) n.memories =
    c.deref.ensures.value ∙ c.in_ok-edge.ensures.ports in
    ap (λ l. length l) ports ∙ length-map n.memories (ports_of (words_of n c.args.inputs.now c.args.self.now))
    ∙ sym (ap (λ l. length l) rams ∙ as_many_rams n c.args.self.now c.requires.state)

pub pass_edges-requires-clause-unknown : goal.pass_edges-requires-clause-unknown
pass_edges-requires-clause-unknown c =
    let n = c.args.n.now in
    let rams : c.deref_mut.result.now ≡ c.args.self.now.memories = c.deref_mut.ensures.value ∙ ap (λ (x : Circuit). x.memories) c.self.view_is in
    as_many_unknown n c.args.unknown.now c.requires.unknown ∙ sym (ap (λ l. length l) rams ∙ as_many_rams n c.args.self.now c.requires.state)

pub returns-clause-clocked : goal.returns-clause-clocked
returns-clause-clocked c =
    let n = c.args.n.now in
    let old = c.args.self.now in
    let new = c.pass_edges.new.memories in
    let inside = c.self.inside.memories in
    let ws = words_of n c.args.inputs.now old in
    let rams : c.deref_mut.result.now ≡ old.memories = c.deref_mut.ensures.value ∙ ap (λ (x : Circuit). x.memories) c.self.view_is in
    let ports : c.deref.result.now ≡ map (ports_of ws) n.memories = c.deref.ensures.value ∙ c.in_ok-edge.ensures.ports in
    let many : length c.deref_mut.result.now ≡ length n.memories = ap (λ l. length l) rams ∙ as_many_rams n old c.requires.state in
    let long : length c.args.unknown.now ≡ length n.memories = as_many_unknown n c.args.unknown.now c.requires.unknown in
    let all : length new ≡ length c.deref_mut.result.now =
    ap (λ l. length l) c.pass_edges.ensures
    ∙ all_as_many c.deref.result.now c.args.unknown.now c.deref_mut.result.now (ap (λ l. length l) ports ∙ length-map n.memories (ports_of ws) ∙ sym many) (long ∙ sym many) in
    let items : (with_items inside new).items ≡ new = with_items_is inside new (all ∙ ap (λ l. length l) c.deref_mut.ensures.value ∙ sym inside.ok.0) in
    let With : List RamState → Circuit = λ m. record { registers = c.in_ok-edge.edge.registers.items; memories = m } in
    ap With items
    ∙ clock_is n (record { inputs = c.args.inputs.now; unknown = c.args.unknown.now }) old c.in_ok-edge.edge.registers.items
    c.deref.result.now new (long ∙ sym (as_many_rams n old c.requires.state)) c.in_ok-edge.ensures.registers ports
    (c.pass_edges.ensures ∙ ap (all_after c.deref.result.now c.args.unknown.now) rams)

pub returns-clause-state : goal.returns-clause-state
returns-clause-state c =
    let n = c.args.n.now in
    subst (IsStateOf n) (sym (returns-clause-clocked c))
    (clock_within n c.requires.netlist (record { inputs = c.args.inputs.now; unknown = c.args.unknown.now }) c.args.self.now
    (record { inputs = c.requires.inputs; unknown = c.requires.unknown }) c.requires.state)
