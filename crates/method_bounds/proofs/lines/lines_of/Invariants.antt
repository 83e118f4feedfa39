use Rattle.std.proofs.Common.{◌≡◌, take}
use Rattle.method_bounds.specs.Lines.{name_in, lines_from}
use Rattle.method_bounds.proofs.lines.lines_of.Given as goal

abbrev pub invariant-loop-m : goal.invariant-loop-m
invariant-loop-m l = l.text.items ≡ lines_from l.f.boot (name_in l.f) 0 (take l.m l.answers)
