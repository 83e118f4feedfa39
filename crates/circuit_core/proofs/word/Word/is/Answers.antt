use Rattle.circuit_build.proofs.Steps.{next, so}
use Rattle.circuit_core.proofs.word.Word.is.Goals as goal
use Rattle.std.proofs.Common.{ap, ◌∙◌}
use Rattle.std.specs.Prelude.{◌==◌}
use Rattle.netlist.specs.Meaning.{bit_of}
use Rattle.circuit_core.proofs.WordBits.{plain_is}

pub returns-clause-gives : goal.returns-clause-gives
returns-clause-gives c =
    so (next c.is-named.ensures.gives c.and.ensures.gives)
    (λ ws f word d.
    plain_is _ _ _ c.args.code word c.requires f.1 d.is_plain (f.0 ∙ ap (λ n. bit_of (n == c.args.code)) d.code))
