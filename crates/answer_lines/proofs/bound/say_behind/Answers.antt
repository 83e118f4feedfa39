use Rattle.std.proofs.Common.{◌++◌, false, sym, subst}
use Rattle.std.specs.List.{concat}
use Rattle.answer_lines.specs.Put.{piece_text}
use Rattle.answer_lines.specs.Said.{Said}
use Rattle.answer_lines.specs.declared.bound.BoundCause.{BoundCause}
use Rattle.answer_lines.specs.AnalysisLines.{cause_tail}
use Rattle.answer_lines.proofs.bound.say_behind.Goals as goal

pub returns-in-NoMethod-clause-said : goal.returns-in-NoMethod-clause-said
returns-in-NoMethod-clause-said g c =
    let P : BoundCause → Type 0 = λ x. Said false (piece_text c.args.first ++ (piece_text c.args.second ++ concat (cause_tail x c.args.subject.now))) (g.O.Sink.held c.args.sink.now) (g.O.Sink.held c.say_pieces.new.sink) (g.O.Sink.faults c.args.sink.now) (g.O.Sink.faults c.say_pieces.new.sink) c.say_pieces.result in
    subst P (sym c.in-NoMethod.is) c.say_pieces.ensures.said

pub returns-in-Recursion-clause-said : goal.returns-in-Recursion-clause-said
returns-in-Recursion-clause-said g c =
    let P : BoundCause → Type 0 = λ x. Said false (piece_text c.args.first ++ (piece_text c.args.second ++ concat (cause_tail x c.args.subject.now))) (g.O.Sink.held c.args.sink.now) (g.O.Sink.held c.say_pieces-in-Recursion.new.sink) (g.O.Sink.faults c.args.sink.now) (g.O.Sink.faults c.say_pieces-in-Recursion.new.sink) c.say_pieces-in-Recursion.result in
    subst P (sym c.in-Recursion.is) c.say_pieces-in-Recursion.ensures.said

pub returns-in-Irreducible-clause-said : goal.returns-in-Irreducible-clause-said
returns-in-Irreducible-clause-said g c =
    let P : BoundCause → Type 0 = λ x. Said false (piece_text c.args.first ++ (piece_text c.args.second ++ concat (cause_tail x c.args.subject.now))) (g.O.Sink.held c.args.sink.now) (g.O.Sink.held c.say_pieces-in-Irreducible.new.sink) (g.O.Sink.faults c.args.sink.now) (g.O.Sink.faults c.say_pieces-in-Irreducible.new.sink) c.say_pieces-in-Irreducible.result in
    subst P (sym c.in-Irreducible.is) c.say_pieces-in-Irreducible.ensures.said

pub returns-in-MissingBound-clause-said : goal.returns-in-MissingBound-clause-said
returns-in-MissingBound-clause-said g c =
    let P : BoundCause → Type 0 = λ x. Said false (piece_text c.args.first ++ (piece_text c.args.second ++ concat (cause_tail x c.args.subject.now))) (g.O.Sink.held c.args.sink.now) (g.O.Sink.held c.say_pieces-in-MissingBound.new.sink) (g.O.Sink.faults c.args.sink.now) (g.O.Sink.faults c.say_pieces-in-MissingBound.new.sink) c.say_pieces-in-MissingBound.result in
    subst P (sym c.in-MissingBound.is) c.say_pieces-in-MissingBound.ensures.said

pub returns-in-TooLarge-clause-said : goal.returns-in-TooLarge-clause-said
returns-in-TooLarge-clause-said g c =
    let P : BoundCause → Type 0 = λ x. Said false (piece_text c.args.first ++ (piece_text c.args.second ++ concat (cause_tail x c.args.subject.now))) (g.O.Sink.held c.args.sink.now) (g.O.Sink.held c.say_pieces-in-TooLarge.new.sink) (g.O.Sink.faults c.args.sink.now) (g.O.Sink.faults c.say_pieces-in-TooLarge.new.sink) c.say_pieces-in-TooLarge.result in
    subst P (sym c.in-TooLarge.is) c.say_pieces-in-TooLarge.ensures.said
