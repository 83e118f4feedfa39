use Rattle.std.proofs.Common.{sym, ap, ◌∙◌, ◌∷◌, map}
use Rattle.verifier_types.specs.Frame.{frame_seen, operands_seen}
use Rattle.verifier_types.specs.Seen.{number_seen}
use Rattle.verifier_types.proofs.RowLemmas.{behind, numbers_found, numbers_lost}
use Rattle.verifier_types.proofs.values.check_compute.Goals as goal

pub returns-then-not-pop_numbers : goal.returns-then-not-pop_numbers
returns-then-not-pop_numbers c = λ s compute ls. sym (numbers_lost (map number_seen c.args.taken.now) (operands_seen c.args.frame.now.operands) _ c.if-not-pop_numbers.ensures)

pub returns : goal.returns
returns c = λ s compute ls.
    ap (behind (frame_seen ls c.args.frame.now)) (c.in_ok-push.ensures ∙ ap (λ t. t ∷ operands_seen c.pop_numbers.new.self) c.as_type.ensures)
    ∙ sym (numbers_found (map number_seen c.args.taken.now) (operands_seen c.args.frame.now.operands) (operands_seen c.pop_numbers.new.self) _ c.if-not-pop_numbers.ensures)
