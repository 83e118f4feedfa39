use Rattle.std.proofs.Common.{◌≡◌, ◌++◌, take}
use Rattle.std.specs.Prelude.{flat_map}
use Rattle.certificates.specs.Written.{section_fed}
use Rattle.certificates.proofs.writing.put_sections.Given as goal

abbrev pub invariant-loop-s : goal.invariant-loop-s
invariant-loop-s l = l.out.items ≡ l.initial.out.items ++ flat_map section_fed (take l.s-index l.sections)
