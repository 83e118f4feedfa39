use Rattle.std.proofs.Common.{◌≡◌, ◌∷◌, [], arith}
use Rattle.std.specs.Prelude.{pos}
use Rattle.std.proofs.lemmas.Int.{ints}
use Rattle.std.proofs.lemmas.Result.{on_ok_weaker}
use Rattle.opcodes.specs.Target.{targets_of}
use Rattle.flow_graph.specs.Naming.{case_places}
use Rattle.flow_graph.proofs.Leading.{first_named, others_named, named_then, named_alone}
use Rattle.flow_graph.proofs.leads.add_named.Goals as goal

pub add_edge-requires-clause-target : goal.add_edge-requires-clause-target
add_edge-requires-clause-target c = λ q e.
    let same : c.in-Some.place ≡ pos q = omega (arith, ints) in
    c.requires.targets q (first_named (targets_of c.args.code.now c.args.pc c.args.instr.now) (case_places c.args.code.now c.args.pc c.args.instr.now) c.in-Some.place q (c.in-Some.ensures c.args.code.now) same)

pub add_cases-requires-clause-targets : goal.add_cases-requires-clause-targets
add_cases-requires-clause-targets c = λ q has. c.requires.targets q (others_named (targets_of c.args.code.now c.args.pc c.args.instr.now) (c.in-Some.place ∷ []) (case_places c.args.code.now c.args.pc c.args.instr.now) q (c.in-Some.ensures c.args.code.now) has)

pub add_cases-requires-in-None-clause-targets : goal.add_cases-requires-in-None-clause-targets
add_cases-requires-in-None-clause-targets c = λ q has. c.requires.targets q (others_named (targets_of c.args.code.now c.args.pc c.args.instr.now) [] (case_places c.args.code.now c.args.pc c.args.instr.now) q (c.in-None.ensures c.args.code.now) has)

pub returns-in_ok-add_edge-in-Some : goal.returns-in_ok-add_edge-in-Some
returns-in_ok-add_edge-in-Some c =
    on_ok_weaker c.add_cases.result (λ d. named_then c.args.edges.now.items c.add_edge.new.edges.items c.add_cases.new.edges.items c.args.pc (targets_of c.args.code.now c.args.pc c.args.instr.now) (case_places c.args.code.now c.args.pc c.args.instr.now) c.in-Some.place (c.in-Some.ensures c.args.code.now) c.in_ok-add_edge-in-Some.ensures (omega (arith, ints)) d) c.add_cases.ensures

pub returns-in-None : goal.returns-in-None
returns-in-None c = on_ok_weaker c.add_cases-in-None.result (λ d. named_alone c.args.edges.now.items c.add_cases-in-None.new.edges.items c.args.pc (targets_of c.args.code.now c.args.pc c.args.instr.now) (case_places c.args.code.now c.args.pc c.args.instr.now) (c.in-None.ensures c.args.code.now) d) c.add_cases-in-None.ensures
