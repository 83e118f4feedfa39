use Rattle.std.proofs.Common.{ℕ, ◌∷◌, [], ◌++◌, Option, None, ap, ◌∙◌}
use Rattle.std.specs.Prelude.{unwrap_or}
use Rattle.bound_finder.proofs.Pushed.{images_more, images_all}
use Rattle.bound_finder.proofs.charges.bounds_or_none.Goals as goal

pub loop-bound-preserved : goal.loop-bound-preserved
loop-bound-preserved c =
    let old = c.loop-bound.bounds.items in
    images_more (λ (o : Option ℕ). unwrap_or o 0) c.args.found.now c.loop-bound.bound-index None old c.push.new.self.items c.loop-bound-test.true c.loop-bound.invariant
    (c.in_ok-push.ensures.items ∙ ap (λ (n : ℕ). old ++ n ∷ []) c.unwrap_or.ensures)

pub returns : goal.returns
returns c = images_all (λ (o : Option ℕ). unwrap_or o 0) c.args.found.now c.loop-bound.bound-index c.loop-bound.bounds.items c.loop-bound-test.false c.loop-bound.invariant
