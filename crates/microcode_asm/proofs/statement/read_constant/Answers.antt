use Rattle.std.proofs.Common.{map, arith}
use Rattle.std.proofs.lemmas.List.{length-map}
use Rattle.microcode_asm.proofs.LineLabels.{now}
use Rattle.microcode_asm.proofs.Lines.{not_two}
use Rattle.microcode_asm.proofs.statement.read_constant.Goals as goal

pub returns-in-len1-clause-said : goal.returns-in-len1-clause-said
returns-in-len1-clause-said c = not_two (map now c.args.parts.now) (λ e. omega (arith, e, length-map c.args.parts.now now))

pub returns-in-len3-up-clause-said : goal.returns-in-len3-up-clause-said
returns-in-len3-up-clause-said c = not_two (map now c.args.parts.now) (λ e. omega (arith, e, length-map c.args.parts.now now))
