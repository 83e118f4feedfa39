use Rattle.std.proofs.Common.{false, List, ℕ, [], ◌∷◌, ◌++◌, codes, subst}
use Rattle.answer_lines.specs.Said.{Said}
use Rattle.answer_lines.proofs.Nodes.{edge_then}
use Rattle.answer_lines.proofs.check.say_edge.Goals as goal

pub returns-clause-said : goal.returns-clause-said
returns-clause-said g c =
    let P : List ℕ → Type 0 = λ x. Said false (codes "check: edge " ++ (c.args.name.now ++ 32 ∷ x)) (g.O.Sink.held c.args.sink.now) (g.O.Sink.held c.say_pieces.new.sink) (g.O.Sink.faults c.args.sink.now) (g.O.Sink.faults c.say_pieces.new.sink) c.say_pieces.result in
    subst P (edge_then c.args.from c.args.to c.mark.result.now c.mark-2.result.now (10 ∷ []) c.mark.ensures c.mark-2.ensures) c.say_pieces.ensures.said
