use Rattle.std.proofs.Common.{◌≡◌, ◌∷◌, sym, ◌∙◌, ap, ℤ, to_z, of_z, w64, map, pos, ◌+ℤ◌}
use Rattle.std.proofs.Math.Facts.{to_z-of_z}
use Rattle.opcodes.specs.declared.instruction.Case.{Case}
use Rattle.opcodes.specs.Target.{cases_of, leads}
use Rattle.opcodes.proofs.TargetLemmas.{with_target}
use Rattle.opcodes.proofs.place.target.Goals as goal

pub returns-then-has_offset : goal.returns-then-has_offset
returns-then-has_offset c = λ code.
    let leading = ap leads (sym c.form_of.ensures) ∙ sym c.has_offset.ensures ∙ c.if-has_offset.true in
    let place : to_z w64 (of_z w64 c.placed.result) ≡ pos c.args.pc +ℤ c.args.instr.now.first = to_z-of_z {w = w64} (record { sfits = c.placed.type_inv }) ∙ c.placed.ensures in
    with_target code c.args.pc c.args.instr.now leading
    ∙ ap (λ (z : ℤ). z ∷ map (λ (d : Case). pos c.args.pc +ℤ d.offset) (cases_of code c.args.instr.now)) (sym place)
