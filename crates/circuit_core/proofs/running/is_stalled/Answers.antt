use Rattle.circuit_build.proofs.Steps.{next, so}
use Rattle.circuit_core.proofs.running.is_stalled.Goals as goal
use Rattle.std.proofs.Common.{ap, ◌∙◌}
use Rattle.std.specs.Prelude.{◌==◌}
use Rattle.netlist.specs.Meaning.{bit_of}
use Rattle.circuit_core.proofs.Acting.{stalled}

pub returns-clause-gives : goal.returns-clause-gives
returns-clause-gives c =
    so (next (next (next (next (next c.is-no_refill.ensures.gives c.is-no_header.ensures.gives) c.is-no_words.ensures.gives) c.and-no_load.ensures.gives) c.and-none.ensures.gives) c.not.ensures.gives)
    (λ ws f n core h.
    stalled core.refill core.header core.left f.1 (c.and-none.ensures.width ∙ c.is-no_refill.ensures.width) f.0.1 f.0.0.1
    (f.0.0.0.0.0 ∙ ap (λ x. bit_of (x == 0)) h.ahead.refill) (f.0.0.0.0.1 ∙ ap (λ x. bit_of (x == 0)) h.method.header) (f.0.0.0.1 ∙ ap (λ x. bit_of (x == 0)) h.method.left))
