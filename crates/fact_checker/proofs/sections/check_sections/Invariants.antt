use Rattle.std.proofs.Common.{◌≡◌, length, take}
use Rattle.fact_rules.specs.Conditions.{sections_of}
use Rattle.fact_checker.specs.Known.{pricing}
use Rattle.fact_checker.specs.Section.{AllMeetPriced}
use Rattle.fact_checker.proofs.sections.check_sections.Given as goal

abbrev pub invariant-loop-i : goal.invariant-loop-i
invariant-loop-i l = record {
  long : l.values.methods ≡ length l.task.flow.methods;
  meet : AllMeetPriced l.task (pricing l.known) (take l.i (sections_of l.known.certificate)) l.values.valued;
}
