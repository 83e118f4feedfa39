use Rattle.circuit_build.proofs.Steps.{next, so}
use Rattle.circuit_core.proofs.cycle.Cycle.new.Goals as goal
use Rattle.std.proofs.Common.{subst}
use Rattle.circuit_cycles.specs.Words.{pops_word, pushes_word}
use Rattle.circuit_cycles.specs.Core.{runs}
use Rattle.circuit_core.specs.Decoding.{Decodes}
use Rattle.circuit_core.proofs.Choosing.{both, decided}

pub returns-clause-gives : goal.returns-clause-gives
returns-clause-gives c =
    so (next (next (next (next (next (next (next (next c.new-word.ensures.gives c.goes-goes.ensures.gives) c.runs-runs.ensures.gives) c.pushes-pushes.ensures.gives) c.pops-pops.ensures.gives) c.and.ensures.gives) c.and-2.ensures.gives) c.choose.ensures.gives) c.choose-2.ensures.gives)
    (λ ws f n core h.
    let word = subst (λ w. Decodes ws c.new-word.result w) h.ahead.word f.0.0.0.0.0.0.0.0 in
    let going = f.0.0.0.0.0.0.0.1 n core h in
    let running = f.0.0.0.0.0.0.1 n core h word going in record {
      registers = h;
      word = word;
      goes = going;
      runs = running;
      pushes = both (runs core) (pushes_word core.word) f.0.0.0.1 running (f.0.0.0.0.0.1 core.word word);
      pops = both (runs core) (pops_word core.word) f.0.0.1 running (f.0.0.0.0.1 core.word word);
      below = decided f.0.1 h.ahead.below_passed h.ahead.passed h.read_outs.below;
      loaded = decided f.1 h.ahead.place_passed h.ahead.passed h.read_outs.loaded;
    })
