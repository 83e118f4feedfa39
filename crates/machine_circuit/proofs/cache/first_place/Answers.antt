use Rattle.circuit_build.proofs.Steps.{kept, so}
use Rattle.machine_circuit.proofs.cache.first_place.Goals as goal
use Rattle.std.proofs.Common.{ap, refl}
use Rattle.netlist.specs.Meaning.{word_on}
use Rattle.machine_circuit.proofs.Finding.{only_block}

pub returns-then-blocks-eq1-clause-gives : goal.returns-then-blocks-eq1-clause-gives
returns-then-blocks-eq1-clause-gives c =
    kept refl (λ ws less fits. only_block c.args.block_words (ap (λ x. word_on ws x) c.constant.ensures) c.if-blocks-eq1.true less)

pub returns-else-blocks-eq1-clause-gives : goal.returns-else-blocks-eq1-clause-gives
returns-else-blocks-eq1-clause-gives c = so c.words_before.ensures.gives (λ ws f less fits. f fits)
