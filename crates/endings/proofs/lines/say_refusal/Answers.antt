use Rattle.std.proofs.Common.{false, sym, subst}
use Rattle.answer_lines.specs.Said as lines
use Rattle.command_line.specs.Command.{texts}
use Rattle.endings.specs.declared.outcome.Refusal.{Refusal}
use Rattle.endings.specs.declared.outcome.Ending.TheVariants.{Refused}
use Rattle.endings.specs.Line.{line_of}
use Rattle.endings.proofs.lines.say_refusal.Goals as goal

pub returns-in-MethodTooLong-clause-said : goal.returns-in-MethodTooLong-clause-said
returns-in-MethodTooLong-clause-said g c =
    let P : Refusal → Type 0 = λ r. lines.Said false (line_of (texts c.args.words.now) (Refused r)) (g.O.Sink.held c.args.sink.now) (g.O.Sink.held c.say_too_long.new.sink) (g.O.Sink.faults c.args.sink.now) (g.O.Sink.faults c.say_too_long.new.sink) c.say_too_long.result in
    subst P (sym c.in-MethodTooLong.is) c.say_too_long.ensures.said
