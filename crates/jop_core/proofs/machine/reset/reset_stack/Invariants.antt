use Rattle.std.proofs.Common.{◌≡◌}
use Rattle.jop_core.proofs.ResetWords.{filled}
use Rattle.jop_core.proofs.machine.reset.reset_stack.Given as goal

abbrev pub invariant-loop-k : goal.invariant-loop-k
invariant-loop-k g l = l.stack ≡ filled g.row.N l.fn.config.memory l.image_words l.fn.boot l.k
