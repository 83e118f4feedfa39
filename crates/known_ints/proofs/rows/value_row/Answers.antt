use Rattle.std.proofs.Common.{◌≡◌, ℤ, w32, to_z, of_z, sym, ap, ◌∙◌, subst, arith}
use Rattle.std.proofs.lemmas.Int.{ints}
use Rattle.known_ints.specs.declared.rows.ValueRow.{ValueRow}
use Rattle.known_ints.specs.Rows.{TellsValue}
use Rattle.known_ints.specs.Told.{value_by}
use Rattle.known_ints.proofs.Telling.{told_is}
use Rattle.known_ints.proofs.rows.value_row.Goals as goal

pub returns : goal.returns
returns c code o r e =
    let i = c.args.instr.now in
    let first : to_z w32 (of_z w32 i.first) ≡ i.first = omega (arith, ints) in
    let is = c.row_by.ensures ∙ ap (λ (z : ℤ). value_by i.op z) first in
    subst (λ (t : ValueRow). TellsValue t r) (sym is) (told_is code i o r e)
