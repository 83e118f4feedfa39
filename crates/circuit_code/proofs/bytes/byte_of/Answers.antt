use Rattle.circuit_build.proofs.Steps.{next, so}
use Rattle.circuit_code.proofs.bytes.byte_of.Goals as goal
use Rattle.netlist.specs.Meaning.{word_on}
use Rattle.circuit_code.proofs.ByteWords.{byte_chosen}

pub returns-clause-gives : goal.returns-clause-gives
returns-clause-gives c =
    so (next (next (next (next (next (next (next (next c.part-first.ensures.gives c.part-second.ensures.gives) c.part-third.ensures.gives) c.part-fourth.ensures.gives) c.part-is_odd.ensures.gives) c.part-is_late.ensures.gives) c.choose-early.ensures.gives) c.choose-late.ensures.gives) c.choose.ensures.gives)
    (λ ws f.
    byte_chosen (word_on ws c.args.word) (word_on ws c.args.place) f.1 f.0.0.0.1 f.0.1 f.0.0.1 f.0.0.0.0.1 f.0.0.0.0.0.0.0.0 f.0.0.0.0.0.0.0.1 f.0.0.0.0.0.0.1 f.0.0.0.0.0.1)
