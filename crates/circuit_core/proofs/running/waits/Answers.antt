use Rattle.circuit_build.proofs.Steps.{next, so}
use Rattle.circuit_core.proofs.running.waits.Goals as goal
use Rattle.std.proofs.Common.{ap, nat_lt, ◌∙◌}
use Rattle.netlist.specs.Meaning.{bit_of, word_on}
use Rattle.circuit_cycles.specs.Words.{is, wait}
use Rattle.circuit_core.proofs.Choosing.{both}

pub returns-clause-gives : goal.returns-clause-gives
returns-clause-gives c =
    so (next (next c.is-is_wait.ensures.gives c.less-is_busy.ensures.gives) c.and.ensures.gives)
    (λ ws f n core h d.
    both (is wait core.word) (nat_lt 1 core.count) f.1 (f.0.0 core.word d)
    (f.0.1 ∙ ap (λ x. bit_of (nat_lt (word_on ws x) (word_on ws c.args.registers.now.port.count))) c.constant.ensures ∙ ap (λ x. bit_of (nat_lt 1 x)) h.port.count))
