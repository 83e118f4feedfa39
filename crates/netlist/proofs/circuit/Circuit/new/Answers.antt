use Rattle.std.proofs.Common.{◌≡◌, List, ℕ, map, sym, ap, ◌∙◌, subst}
use Rattle.std.specs.List.{zip}
use Rattle.netlist.specs.declared.parts.BlockRam.{BlockRam}
use Rattle.netlist.specs.declared.parts.Register as register
use Rattle.netlist.specs.Meaning.{Circuit, RamState, first_ram, started}
use Rattle.netlist.specs.WellFormed.{IsStateOf}
use Rattle.netlist.proofs.Ranges.{started_within}
use Rattle.netlist.proofs.circuit.Circuit.new.Goals as goal

pub returns-clause-state : goal.returns-clause-state
returns-clause-state c =
    let With : List ℕ → List RamState → Circuit = λ r m. record { registers = r; memories = m } in
    let registers : c.in_ok-registers.registers.items ≡ map (λ (r : register.Register). r.first) c.args.n.now.registers =
    c.in_ok-registers.ensures ∙ ap (map (λ (r : register.Register). r.first)) c.as_slice.ensures in
    let memories : c.in_ok-memories.memories.items ≡ map first_ram (zip c.args.n.now.memories c.args.unknown.now) =
    c.in_ok-memories.ensures ∙ ap (λ (l : List BlockRam). map first_ram (zip l c.args.unknown.now)) c.as_slice-2.ensures in
    let same : With c.in_ok-registers.registers.items c.in_ok-memories.memories.items ≡ started c.args.n.now c.args.unknown.now =
    ap (λ r. With r c.in_ok-memories.memories.items) registers ∙ ap (With (map (λ (r : register.Register). r.first) c.args.n.now.registers)) memories in
    subst (IsStateOf c.args.n.now) (sym same) (started_within c.args.n.now c.requires.netlist c.args.unknown.now c.requires.unknown)
