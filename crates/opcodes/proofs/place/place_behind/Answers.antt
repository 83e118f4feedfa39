use Rattle.std.proofs.Common.{sym, ◌∙◌, arith}
use Rattle.opcodes.proofs.LengthLemmas.{length_ends}
use Rattle.opcodes.proofs.place.place_behind.Goals as goal

pub overflow_add-behind : goal.overflow_add-behind
overflow_add-behind c =
    let ends = length_ends c.args.code.now c.args.pc c.in_ok-behind.field-0 (sym c.in_ok-behind.was ∙ c.length.ensures) in
    omega (arith, ends)
