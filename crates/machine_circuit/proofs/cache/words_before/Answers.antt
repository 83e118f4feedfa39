use Rattle.circuit_build.proofs.Steps.{next, so}
use Rattle.machine_circuit.proofs.cache.words_before.Goals as goal
use Rattle.std.proofs.Common.{◌∙◌, ap, inl, inr}
use Rattle.std.proofs.lemmas.Bool.{cases_lt}
use Rattle.netlist.specs.Meaning.{word_on}
use Rattle.machine_circuit.proofs.Finding.{multiplied, small_factor}
use Rattle.std.proofs.Math.Nat.{mod-eq_of_lt}

pub returns-clause-gives : goal.returns-clause-gives
returns-clause-gives c =
    elim (cases_lt c.args.bits c.args.block.width) [
      | inl less ↦
          so (next (c.fit-block.ensures.cut less) c.mul.ensures.gives)
          (λ ws f fits. multiplied (word_on ws c.args.block) c.args.block_words fits f.1 (f.0 ∙ mod-eq_of_lt (small_factor fits c.requires)) c.fit-block.ensures.width (ap (λ x. word_on ws x) c.constant.ensures ∙ c.from.ensures))
      | inr few ↦
          so (next (c.fit-block.ensures.kept few) c.mul.ensures.gives)
          (λ ws f fits. multiplied (word_on ws c.args.block) c.args.block_words fits f.1 f.0 c.fit-block.ensures.width (ap (λ x. word_on ws x) c.constant.ensures ∙ c.from.ensures))
    ]
