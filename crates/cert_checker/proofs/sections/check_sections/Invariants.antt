use Rattle.std.proofs.Common.{◌≡◌, length, take}
use Rattle.cert_checker.specs.Section.{AllMeetFor}
use Rattle.cert_checker.proofs.sections.check_sections.Given as goal

abbrev pub invariant-loop-s : goal.invariant-loop-s
invariant-loop-s l = record {
  long : l.values.methods ≡ length l.task.flow.methods;
  meet : AllMeetFor l.task (take l.s-index l.sections) l.values.valued;
}
