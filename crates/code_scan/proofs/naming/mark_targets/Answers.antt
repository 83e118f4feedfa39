use Rattle.std.proofs.Common.{◌≡◌, ◌∷◌, [], arith}
use Rattle.std.specs.Prelude.{pos}
use Rattle.std.proofs.lemmas.Int.{ints}
use Rattle.opcodes.specs.Target.{targets_of}
use Rattle.code_scan.specs.Naming.{case_places}
use Rattle.code_scan.proofs.Marking.{first_named, others_named, named_then}
use Rattle.code_scan.proofs.naming.mark_targets.Goals as goal

pub mark-requires : goal.mark-requires
mark-requires c = λ q e.
    let same : c.in-Some.place ≡ pos q = omega (arith, ints) in
    c.requires.inside q (first_named (targets_of c.args.code.now c.args.pc c.args.instr.now) (case_places c.args.code.now c.args.pc c.args.instr.now) c.in-Some.place q (c.in-Some.ensures c.args.code.now) same)

pub mark_cases-requires-clause-inside : goal.mark_cases-requires-clause-inside
mark_cases-requires-clause-inside c = λ q has.
    let inside = c.requires.inside q (others_named (targets_of c.args.code.now c.args.pc c.args.instr.now) (c.in-Some.place ∷ []) (case_places c.args.code.now c.args.pc c.args.instr.now) q (c.in-Some.ensures c.args.code.now) has) in
    let long = c.mark.ensures.long in
    omega arith

pub mark_cases-requires-in-None-clause-inside : goal.mark_cases-requires-in-None-clause-inside
mark_cases-requires-in-None-clause-inside c = λ q has. c.requires.inside q (others_named (targets_of c.args.code.now c.args.pc c.args.instr.now) [] (case_places c.args.code.now c.args.pc c.args.instr.now) q (c.in-None.ensures c.args.code.now) has)

pub returns-in-Some : goal.returns-in-Some
returns-in-Some c =
    named_then c.args.marks.now.items c.mark.new.marks.items c.mark_cases.new.marks.items (targets_of c.args.code.now c.args.pc c.args.instr.now) (case_places c.args.code.now c.args.pc c.args.instr.now) c.in-Some.place
    (c.in-Some.ensures c.args.code.now) c.mark.ensures (omega (arith, ints)) c.mark_cases.ensures
