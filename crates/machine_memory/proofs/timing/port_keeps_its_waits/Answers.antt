use Rattle.std.proofs.Common.{arith}
use Rattle.machine_memory.specs.Timing.Port.{read_started, write_started}
use Rattle.machine_memory.proofs.TimingLemmas.Ticks.{count-ticked_for, value-ticked_for, words-ticked_for}
use Rattle.machine_memory.proofs.timing.port_keeps_its_waits.Goals as goal

pub returns-clause-read : goal.returns-clause-read
returns-clause-read c = λ p a n.
    let left = count-ticked_for n (read_started a p) in
    (λ h. omega arith, λ h. omega arith)

pub returns-clause-write : goal.returns-clause-write
returns-clause-write c = λ p a v n.
    let left = count-ticked_for n (write_started a v p) in
    (λ h. omega arith, λ h. omega arith)

pub returns-clause-stays : goal.returns-clause-stays
returns-clause-stays c = λ p a n.
    (value-ticked_for n (read_started a p), words-ticked_for n (read_started a p))
