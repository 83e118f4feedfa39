use Rattle.std.proofs.Common.{◌≡◌, ℕ, ◌+◌, ◌-◌, ◌<◌, ◌≤◌, length}
use Rattle.opcodes.specs.Start.{IsStart, IsByteOf}
use Rattle.image_facts.proofs.code.instruction_with.Given as goal

abbrev pub invariant-loop-start : goal.invariant-loop-start
invariant-loop-start l = record {
  end : l.end ≡ length l.code;
  start : l.start < length l.code → IsStart l.code l.start;
  later : (pc : ℕ) → IsByteOf l.code l.place pc → l.start ≤ pc;
}

abbrev pub decreases-loop-start : goal.decreases-loop-start
decreases-loop-start l = l.place + 1 - l.start
