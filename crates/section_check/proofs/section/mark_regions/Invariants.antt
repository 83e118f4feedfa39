use Rattle.std.proofs.Common.{◌≡◌, take}
use Rattle.section_check.specs.Regions.{marked}
use Rattle.section_check.proofs.section.mark_regions.Given as goal

abbrev pub invariant-loop-i : goal.invariant-loop-i
invariant-loop-i l = l.loops ≡ marked l.fn.loops (take l.i l.regions)
