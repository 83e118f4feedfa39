use Rattle.circuit_build.proofs.Steps.{next, so}
use Rattle.circuit_code.proofs.bytes.ring_place.Goals as goal
use Rattle.std.proofs.Common.{ap, ◌∙◌, arith}
use Rattle.netlist.specs.Meaning.{word_on}
use Rattle.circuit_code.proofs.ByteWords.{part_fits, ring_at}

pub returns-clause-gives : goal.returns-clause-gives
returns-clause-gives c =
    so (next (next (next (next (next (next (next c.part-word.ensures.gives c.low-word.ensures.gives) (c.fit-from.ensures.kept (omega (arith, c.requires.base)))) c.add-straight.ensures.gives) c.sub-around.ensures.gives) c.less-is_straight.ensures.gives) c.choose-place.ensures.gives) c.part.ensures.gives)
    (λ ws f h.
    ring_at c.args.bits c.args.size (word_on ws c.args.base) (word_on ws c.args.byte_place) h f.1 f.0.1 f.0.0.1 f.0.0.0.1 f.0.0.0.0.1
    c.fit-from.ensures.width (c.add-straight.ensures.width ∙ c.fit-from.ensures.width) f.0.0.0.0.0.1 (f.0.0.0.0.0.0.1 (part_fits _ _ _ f.0.0.0.0.0.0.0 c.part-word.ensures.width)) f.0.0.0.0.0.0.0 (ap (λ x. word_on ws x) c.constant-size.ensures ∙ c.from.ensures))
