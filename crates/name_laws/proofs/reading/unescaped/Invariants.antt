use Rattle.std.proofs.Common.{◌≡◌, ◌++◌, length}
use Rattle.name_laws.specs.Written.{unescaped}
use Rattle.name_laws.proofs.reading.unescaped.Given as goal

abbrev pub invariant-loop-left : goal.invariant-loop-left
invariant-loop-left l = l.name.items ++ unescaped l.left ≡ unescaped l.text

abbrev pub decreases-loop-left : goal.decreases-loop-left
decreases-loop-left l = length l.left
