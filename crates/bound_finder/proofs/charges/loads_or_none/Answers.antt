use Rattle.std.proofs.Common.{ℕ, ◌∷◌, [], ◌++◌, Option, None, ap, ◌∙◌}
use Rattle.std.specs.Prelude.{unwrap_or}
use Rattle.bound_finder.proofs.Pushed.{images_more, images_all}
use Rattle.bound_finder.proofs.charges.loads_or_none.Goals as goal

pub loop-candidate-preserved : goal.loop-candidate-preserved
loop-candidate-preserved c =
    let old = c.loop-candidate.loads.items in
    images_more (λ (o : Option ℕ). unwrap_or o 0) c.args.candidates.now c.loop-candidate.candidate-index None old c.push.new.self.items c.loop-candidate-test.true c.loop-candidate.invariant
    (c.in_ok-push.ensures.items ∙ ap (λ (n : ℕ). old ++ n ∷ []) c.unwrap_or.ensures)

pub returns : goal.returns
returns c = images_all (λ (o : Option ℕ). unwrap_or o 0) c.args.candidates.now c.loop-candidate.candidate-index c.loop-candidate.loads.items c.loop-candidate-test.false c.loop-candidate.invariant
