use Rattle.std.proofs.Common.{arith, sym}
use Rattle.microcode_asm.proofs.Numbers.{up_to_some, up_to_none}
use Rattle.microcode_asm.proofs.part.number_up_to.Goals as goal

pub returns-in-None-clause-number : goal.returns-in-None-clause-number
returns-in-None-clause-number c = up_to_none c.args.most c.args.text.now (λ r le. c.in-None.ensures (r, omega arith))

pub returns-then-number-most-clause-number : goal.returns-then-number-most-clause-number
returns-then-number-most-clause-number c =
    up_to_some c.args.most c.args.text.now c.in-Some.number c.in-Some.ensures.0.0 (sym c.in-Some.ensures.1) c.if-number-most.true

pub returns-else-number-most-clause-number : goal.returns-else-number-most-clause-number
returns-else-number-most-clause-number c = up_to_none c.args.most c.args.text.now (λ r le. omega (arith, le, c.in-Some.ensures.1, c.if-number-most.false))
