use Rattle.std.proofs.Common.{ℕ, List, false, sym, subst}
use Rattle.std.specs.List.{concat}
use Rattle.answer_lines.specs.Said as lines
use Rattle.command_line.specs.Command.{texts}
use Rattle.endings.specs.declared.outcome.Ending.{Ending}
use Rattle.answer_lines.specs.AnalysisLines.{price_parts}
use Rattle.endings.specs.Line.{too_long_parts, line_of, is_fault}
use Rattle.endings.proofs.lines.say_ending.Goals as goal

pub returns-in-TooLong-clause-said : goal.returns-in-TooLong-clause-said
returns-in-TooLong-clause-said g c =
    let E : Ending → Type 0 = λ e. lines.Said (is_fault e) (line_of (texts c.args.words.now) e) (g.O.Sink.held c.args.sink.now) (g.O.Sink.held c.say_too_long.new.sink) (g.O.Sink.faults c.args.sink.now) (g.O.Sink.faults c.say_too_long.new.sink) c.say_too_long.result in
    let N : List ℕ → Type 0 = λ n. lines.Said false (concat (too_long_parts n c.in-TooLong.blocks c.in-TooLong.limit)) (g.O.Sink.held c.args.sink.now) (g.O.Sink.held c.say_too_long.new.sink) (g.O.Sink.faults c.args.sink.now) (g.O.Sink.faults c.say_too_long.new.sink) c.say_too_long.result in
    subst E (sym c.in-TooLong.is) (subst N c.deref-in-TooLong.ensures.value c.say_too_long.ensures.said)

pub returns-in-NotPriced-clause-said : goal.returns-in-NotPriced-clause-said
returns-in-NotPriced-clause-said g c =
    let E : Ending → Type 0 = λ e. lines.Said (is_fault e) (line_of (texts c.args.words.now) e) (g.O.Sink.held c.args.sink.now) (g.O.Sink.held c.say_price_fault.new.sink) (g.O.Sink.faults c.args.sink.now) (g.O.Sink.faults c.say_price_fault.new.sink) c.say_price_fault.result in
    let N : List ℕ → Type 0 = λ n. lines.Said false (concat (price_parts n c.in-NotPriced.node)) (g.O.Sink.held c.args.sink.now) (g.O.Sink.held c.say_price_fault.new.sink) (g.O.Sink.faults c.args.sink.now) (g.O.Sink.faults c.say_price_fault.new.sink) c.say_price_fault.result in
    subst E (sym c.in-NotPriced.is) (subst N c.deref-in-NotPriced.ensures.value c.say_price_fault.ensures.said)
