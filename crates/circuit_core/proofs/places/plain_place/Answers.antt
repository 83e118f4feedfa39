use Rattle.circuit_build.proofs.Steps.{next, so}
use Rattle.circuit_core.proofs.places.plain_place.Goals as goal
use Rattle.std.proofs.Common.{[], ◌∷◌, ◌+◌, ◌%◌, ◌^◌, refl, ap, ◌∙◌}
use Rattle.netlist.specs.Meaning.{word_on}
use Rattle.circuit_core.proofs.Choosing.{picks}
use Rattle.circuit_core.proofs.Placing.{places}

pub returns-clause-gives : goal.returns-clause-gives
returns-clause-gives c =
    so (next (next c.offset-offset.ensures.gives c.add-local.ensures.gives) c.choose.ensures.gives)
    (λ ws f word d h.
    picks (34 ∷ 35 ∷ []) word (f.1 word d) refl (f.0.1 ∙ ap (λ x. (word_on ws c.args.vp + x) % 2 ^ c.args.vp.width) (f.0.0 word d))
    ∙ places (2 ^ c.args.vp.width) word (word_on ws c.args.vp) (word_on ws c.args.ar) (word_on ws c.args.operand) h)
