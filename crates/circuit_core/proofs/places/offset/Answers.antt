use Rattle.circuit_build.proofs.Steps.{next, so}
use Rattle.circuit_core.proofs.places.offset.Goals as goal
use Rattle.std.proofs.Common.{[], ◌∷◌, ap}
use Rattle.netlist.specs.Meaning.{word_on}
use Rattle.circuit_core.proofs.Choosing.{picks}

pub returns-clause-gives : goal.returns-clause-gives
returns-clause-gives c =
    so (next (next (next (next (c.fit-index.ensures.cut c.requires.few) c.choose-number.ensures.gives) c.choose-number-2.ensures.gives) c.choose-number-3.ensures.gives) c.choose.ensures.gives)
    (λ ws f word d.
    picks (17 ∷ 18 ∷ []) word (f.1 word d) f.0.0.0.0 (picks (20 ∷ 24 ∷ []) word (f.0.1 word d) (ap (λ n. word_on ws n) c.constant-4.ensures)
    (picks (21 ∷ 25 ∷ []) word (f.0.0.1 word d) (ap (λ n. word_on ws n) c.constant-3.ensures)
    (picks (22 ∷ 26 ∷ []) word (f.0.0.0.1 word d) (ap (λ n. word_on ws n) c.constant.ensures) (ap (λ n. word_on ws n) c.constant-2.ensures)))))
