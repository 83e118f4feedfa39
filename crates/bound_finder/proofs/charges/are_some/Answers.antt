use Rattle.std.proofs.Common.{ℕ, Bool, ◌∷◌, [], ◌++◌, Option, None, ap, ◌∙◌}
use Rattle.std.specs.Prelude.{is_some}
use Rattle.bound_finder.proofs.Pushed.{images_more, images_all}
use Rattle.bound_finder.proofs.charges.are_some.Goals as goal

pub loop-candidate-preserved : goal.loop-candidate-preserved
loop-candidate-preserved c =
    let old = c.loop-candidate.flags.items in
    images_more (λ (o : Option ℕ). is_some o) c.args.candidates.now c.loop-candidate.candidate-index None old c.push.new.self.items c.loop-candidate-test.true c.loop-candidate.invariant
    (c.in_ok-push.ensures.items ∙ ap (λ (b : Bool). old ++ b ∷ []) c.is_some.ensures)

pub returns : goal.returns
returns c = images_all (λ (o : Option ℕ). is_some o) c.args.candidates.now c.loop-candidate.candidate-index c.loop-candidate.flags.items c.loop-candidate-test.false c.loop-candidate.invariant
