use Rattle.std.proofs.Common.{false, sym, subst}
use Rattle.std.specs.List.{concat}
use Rattle.answer_lines.specs.Said.{Said}
use Rattle.memory_rules.specs.declared.causes.NeedCause.{NeedCause}
use Rattle.answer_lines.specs.MemoryLines.{need_cause_parts}
use Rattle.answer_lines.proofs.memory.say_need_cause.Goals as goal

pub returns-in-MissingBound-clause-said : goal.returns-in-MissingBound-clause-said
returns-in-MissingBound-clause-said g c =
    let P : NeedCause → Type 0 = λ x. Said false (concat (need_cause_parts x c.args.subject.now)) (g.O.Sink.held c.args.sink.now) (g.O.Sink.held c.say_place.new.sink) (g.O.Sink.faults c.args.sink.now) (g.O.Sink.faults c.say_place.new.sink) c.say_place.result in
    subst P (sym c.in-MissingBound.is) c.say_place.ensures.said

pub returns-in-MissingSize-clause-said : goal.returns-in-MissingSize-clause-said
returns-in-MissingSize-clause-said g c =
    let P : NeedCause → Type 0 = λ x. Said false (concat (need_cause_parts x c.args.subject.now)) (g.O.Sink.held c.args.sink.now) (g.O.Sink.held c.say_place-in-MissingSize.new.sink) (g.O.Sink.faults c.args.sink.now) (g.O.Sink.faults c.say_place-in-MissingSize.new.sink) c.say_place-in-MissingSize.result in
    subst P (sym c.in-MissingSize.is) c.say_place-in-MissingSize.ensures.said
