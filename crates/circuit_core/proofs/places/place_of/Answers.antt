use Rattle.circuit_build.proofs.Steps.{next, so}
use Rattle.circuit_core.proofs.places.place_of.Goals as goal
use Rattle.std.proofs.Common.{◌^◌, ◌∙◌, arith}
use Rattle.netlist.specs.Meaning.{word_on}
use Rattle.circuit_core.proofs.Placing.{place_chosen}

pub returns-clause-gives : goal.returns-clause-gives
returns-clause-gives c =
    so (next (next (next (next (next c.plain_place-plain.ensures.gives c.join-fixed.ensures.gives) (c.fit-fixed.ensures.kept (omega (arith, c.join-fixed.ensures.width (omega (arith, c.args.word.now.is_ldi_width, c.args.word.now.number_width)), c.requires.some, c.args.word.now.is_ldi_width, c.args.word.now.number_width)))) c.or-is_number.ensures.gives) c.or-is_fixed.ensures.gives) c.choose.ensures.gives)
    (λ ws f word d h.
    place_chosen word (2 ^ c.args.vp.width) (word_on ws c.args.vp) (word_on ws c.args.ar) (word_on ws c.args.operand) f.1 f.0.1 f.0.0.1 (f.0.0.0.1 ∙ f.0.0.0.0.1)
    c.args.word.now.number_width d.is_ldi d.number d.is_stm d.is_ldm (f.0.0.0.0.0 word d h))
