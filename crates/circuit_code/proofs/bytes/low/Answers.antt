use Rattle.circuit_build.proofs.Steps.{so}
use Rattle.circuit_code.proofs.bytes.low.Goals as goal
use Rattle.std.proofs.Common.{◌∙◌, sym}
use Rattle.std.proofs.Common.{inl, inr}
use Rattle.std.proofs.Math.Nat.{mod-eq_of_lt}
use Rattle.circuit_code.proofs.ByteWords.{le-or-lt, lt_to_pow}

pub returns-clause-gives : goal.returns-clause-gives
returns-clause-gives c =
    elim (le-or-lt c.args.x.width c.args.width) [
      | inl few ↦ so (c.fit.ensures.kept few) (λ ws f h. f ∙ sym (mod-eq_of_lt (lt_to_pow _ c.args.x.width c.args.width h few)))
      | inr many ↦ so (c.fit.ensures.cut many) (λ ws f h. f)
    ]
