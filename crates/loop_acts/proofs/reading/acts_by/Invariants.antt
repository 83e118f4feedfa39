use Rattle.std.proofs.Common.{◌≡◌, map, take}
use Rattle.loop_acts.specs.Reading.{act_if}
use Rattle.loop_acts.proofs.reading.acts_by.Given as goal

abbrev pub invariant-loop-line : goal.invariant-loop-line
invariant-loop-line l = l.acts.items ≡ map (act_if l.lines l.scan l.ints) (take l.line-index l.lines)
