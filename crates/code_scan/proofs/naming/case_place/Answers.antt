use Rattle.std.proofs.Common.{ap, ◌∙◌, arith}
use Rattle.std.specs.Prelude.{pos, ◌+ℤ◌, option_map, Some, ℤ}
use Rattle.std.proofs.lemmas.Int.{ints}
use Rattle.std.proofs.lemmas.Option.{slice_get-map}
use Rattle.opcodes.specs.declared.instruction.Case.{Case}
use Rattle.opcodes.specs.Target.{cases_of}
use Rattle.code_scan.proofs.naming.case_place.Goals as goal

pub returns : goal.returns
returns c =
    let a = c.place_at.ensures in
    let b = c.place_at.type_inv in
    let d = c.case-case.type_inv in
    slice_get-map (λ (x : Case). pos c.args.pc +ℤ x.offset) (cases_of c.args.code.now c.args.instr.now) c.args.index
    ∙ ap (option_map (λ (x : Case). pos c.args.pc +ℤ x.offset)) c.case-case.ensures
    ∙ ap (λ (z : ℤ). Some z) (omega (arith, ints))
