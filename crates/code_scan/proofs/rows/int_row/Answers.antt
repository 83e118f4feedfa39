use Rattle.std.proofs.Common.{◌≡◌, ℤ, w32, to_z, of_z, sym, ap, ◌∙◌, subst, arith}
use Rattle.std.proofs.lemmas.Int.{ints}
use Rattle.code_scan.specs.declared.rows.IntRow.{IntRow}
use Rattle.code_scan.specs.Rows.{Tells}
use Rattle.code_scan.specs.Told.{told_by}
use Rattle.code_scan.proofs.Telling.{told_is, entry_is}
use Rattle.code_scan.proofs.rows.int_row.Goals as goal

pub returns-clause-tells : goal.returns-clause-tells
returns-clause-tells c code o r e =
    let i = c.args.instr.now in
    let first : to_z w32 (of_z w32 i.first) ≡ i.first = omega (arith, ints) in
    let second : to_z w32 (of_z w32 i.second) ≡ i.second = omega (arith, ints) in
    let is = c.row_by.ensures ∙ (ap (λ (z : ℤ). told_by i.op z (to_z w32 (of_z w32 i.second))) first ∙ ap (λ (z : ℤ). told_by i.op i.first z) second) in
    subst (λ (t : IntRow). Tells t r) (sym is) (told_is code i o r e)

pub returns-clause-constant : goal.returns-clause-constant
returns-clause-constant c e code o =
    let i = c.args.instr.now in
    let first : to_z w32 (of_z w32 i.first) ≡ i.first = omega (arith, ints) in
    let second : to_z w32 (of_z w32 i.second) ≡ i.second = omega (arith, ints) in
    let is = c.row_by.ensures ∙ (ap (λ (z : ℤ). told_by i.op z (to_z w32 (of_z w32 i.second))) first ∙ ap (λ (z : ℤ). told_by i.op i.first z) second) in
    entry_is code i o (sym is ∙ e)
