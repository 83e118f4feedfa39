use Rattle.std.proofs.Common.{◌≡◌, map, take}
use Rattle.method_bounds.specs.Answering.{refused_by}
use Rattle.method_bounds.proofs.answers.refusals.Given as goal

abbrev pub invariant-loop-cause : goal.invariant-loop-cause
invariant-loop-cause l = l.answers.items ≡ map refused_by (take l.cause-index l.causes)
